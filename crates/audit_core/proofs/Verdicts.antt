-- A text has one verdict; and from the steps of an audit to its verdict.
use Rattle.std.proofs.Common.{◌≡◌, ℕ, ◌≤◌, List, [], ◌∷◌, Option, refl, sym, ap, ap₂, ◌∙◌, subst, arith}
use Rattle.std.specs.List.{AllZip}
use Rattle.claim_tree.specs.Tree.{Text, Tree, leaf, text}
use Rattle.refusals.specs.Lowest.{NoneApplies}
use Rattle.digest_sites.specs.Given.{Given}
use Rattle.hmac_sign.specs.Signatures.{Meaning}
use Rattle.json_form.specs.Token.{IsToken}
use Rattle.json_form.specs.declared.token.Token.{Token}
use Rattle.json_form.proofs.Tokens.{one as one_token, not_both, one_refusal}
use Rattle.issuer_core.specs.declared.errors.IssueError.{IssueError}
use Rattle.issuer_core.specs.Order.{Order}
use Rattle.issuer_core.specs.OrderRefusals.{AppliesToOrder, IsLowestRefusal, issue_number}
use Rattle.audit_core.specs.declared.errors.AuditError.{AuditError}
use Rattle.audit_core.specs.declared.errors.AuditError.TheVariants.{Memory, Order as OnOrder, Token as OnCondition, Part}
use Rattle.audit_core.specs.Audited.{GivesSalted, IsWrittenFor, IsAuditedFor, IsAudited}
use Rattle.audit_core.specs.Audit.{PassesAudit, FailsAudit, DiffersIn, signed_differs, written_differs, content_differs, ContentDiffers, claims_differ, digests_differ, decoys_differ, order_differs, of_order, of_text, of_part}
use Rattle.audit_core.specs.AuditLaws.{HasOneVerdict}
use Rattle.disclosure.specs.declared.digests.HashAlg.{HashAlg}
use Rattle.disclosure.specs.Disclosure.{array_of}
use Rattle.disclosure.proofs.Arrays.{array_of-injective}
use Rattle.jws_part.proofs.Parts.{one_carried}
use Rattle.rebuild_core.specs.Payload.{without_alg}
use Rattle.compact_form.specs.declared.parts.Parts.{Parts}
use Rattle.audit_core.specs.AuditCalls.{IsAuditRefused, IsBeforeOpening}
use Rattle.audit_core.specs.AuditSteps.{IsWrittenWith, OnPart, OnOrderRefused}

pub on_part : (e : AuditError) (P Q : ℕ → Type 0) → ((k : ℕ) → P k → Q k) → OnPart e P → OnPart e Q
on_part Memory P Q f h = tt
on_part (OnOrder k) P Q f h = h
on_part (OnCondition fault) P Q f h = h
on_part (Part k) P Q f h = f k h

pub order_told : (o : Order) (alg : Text) (accepts : Meaning) (content : Text) (e : AuditError) → OnOrderRefused e o → IsAuditRefused o alg accepts content e
order_told o alg accepts content Memory h = tt
order_told o alg accepts content (OnOrder k) h = of_order h.0 h.1 (ap OnOrder h.2)
order_told o alg accepts content (OnCondition fault) h = absurd h
order_told o alg accepts content (Part k) h = absurd h

pub part_told : (o : Order) (alg : Text) (accepts : Meaning) (content : Text) (token : Token) → NoneApplies (AppliesToOrder o) → IsToken content token
    → (e : AuditError) → OnPart e (DiffersIn o alg accepts token) → IsAuditRefused o alg accepts content e
part_told o alg accepts content token passes is Memory h = tt
part_told o alg accepts content token passes is (OnOrder k) h = absurd h
part_told o alg accepts content token passes is (OnCondition fault) h = absurd h
part_told o alg accepts content token passes is (Part k) h = of_part token k passes is h refl

-- what refuses a token of an order that is not refused before anything is looked up
pub early_part : (o : Order) (alg : Text) (accepts : Meaning) (content : Text) (token : Token) → NoneApplies (AppliesToOrder o) → IsToken content token
    → (same : Type 0) → ((k : ℕ) → k ≤ 2 → DiffersIn o alg accepts token k → same) → (e : AuditError) → IsBeforeOpening e → FailsAudit o alg accepts content e → same
early_part o alg accepts content token passes is same f e early (of_order refusal lowest at) = absurd (passes refusal lowest.applies)
early_part o alg accepts content token passes is same f e early (of_text fault none refused at) = absurd (not_both content token fault is refused)
early_part o alg accepts content token passes is same f e early (of_part other k none read differs at) =
    f k (subst IsBeforeOpening at early) (subst (λ t. DiffersIn o alg accepts t k) (one_token content other token read is) differs)

-- ---- one verdict

-- what is written is one payload and one list of disclosures
given_same : (d e : Text) (n m : Option Text) (v u : Tree) → d ≡ e → n ≡ m → v ≡ u → ◌≡◌ {A = Given} (record { digest = d; name = n; value = v }) (record { digest = e; name = m; value = u })
given_same d e n m v u f g h = cc

one_salted : (hash : HashAlg) (disclosure : Text) (x y : Given) → GivesSalted hash disclosure x → GivesSalted hash disclosure y → x ≡ y
one_salted hash disclosure x y a b =
    let same = one_carried disclosure (array_of (leaf (text a.salted.salt)) x.name x.value) (array_of (leaf (text b.salted.salt)) y.name y.value) a.salted.written.carried b.salted.written.carried in
    let e = array_of-injective (leaf (text a.salted.salt)) (leaf (text b.salted.salt)) x.name y.name x.value y.value same in
    given_same x.digest y.digest x.name y.name x.value y.value (a.digest ∙ sym b.digest) e.1 e.2

one_given : (hash : HashAlg) (ds : List Text) (xs ys : List Given) → AllZip (GivesSalted hash) ds xs → AllZip (GivesSalted hash) ds ys → xs ≡ ys
one_given hash [] [] [] a b = refl
one_given hash [] [] (y ∷ ys) a b = absurd b
one_given hash [] (x ∷ xs) ys a b = absurd a
one_given hash (d ∷ ds) [] ys a b = absurd a
one_given hash (d ∷ ds) (x ∷ xs) [] a b = absurd b
one_given hash (d ∷ ds) (x ∷ xs) (y ∷ ys) a b = ap₂ (λ (z : Given) (zs : List Given). z ∷ zs) (one_salted hash d x y a.0 b.0) (one_given hash ds xs ys a.1 b.1)

one_body : (o : Order) (parts : Parts) (p q : Tree) (xs ys : List Given) → IsWrittenFor o parts p xs → IsWrittenFor o parts q ys → p ≡ q
one_body o parts p q xs ys a b = one_carried parts.signed.payload p q a.payload.carried b.payload.carried

-- the same of what is read, and then what is said of the one is said of the other
pub one_reading : (A : Tree → List Given → Type 0) (hash : HashAlg) (hidden : ℕ) (parts : Parts) (p q : Tree) (xs ys : List Given) → IsWrittenWith hash hidden parts p xs → IsWrittenWith hash hidden parts q ys
    → A p xs → A q ys
one_reading A hash hidden parts p q xs ys a b said =
    let body = one_carried parts.signed.payload p q a.payload.carried b.payload.carried in
    let given = one_given hash parts.disclosures xs ys a.disclosures b.disclosures in
    subst (λ zs. A q zs) given (subst (λ r. A r xs) body said)

-- the part that differs of one content
one_content : (o : Order) (p : Tree) (g : List Given) (k j : ℕ) → ContentDiffers o p g k → ContentDiffers o p g j → k ≡ j
one_content o p g k j (claims_differ e n) (claims_differ f m) = e ∙ sym f
one_content o p g k j (claims_differ e n) (digests_differ f s m) = absurd (n s)
one_content o p g k j (claims_differ e n) (decoys_differ f s d m) = absurd (n s)
one_content o p g k j (claims_differ e n) (order_differs f s d c m) = absurd (n s)
one_content o p g k j (digests_differ e s n) (claims_differ f m) = absurd (m s)
one_content o p g k j (digests_differ e s n) (digests_differ f t m) = e ∙ sym f
one_content o p g k j (digests_differ e s n) (decoys_differ f t d m) = absurd (n d)
one_content o p g k j (digests_differ e s n) (order_differs f t d c m) = absurd (n d)
one_content o p g k j (decoys_differ e s d n) (claims_differ f m) = absurd (m s)
one_content o p g k j (decoys_differ e s d n) (digests_differ f t m) = absurd (m d)
one_content o p g k j (decoys_differ e s d n) (decoys_differ f t b m) = e ∙ sym f
one_content o p g k j (decoys_differ e s d n) (order_differs f t b c m) = absurd (n c)
one_content o p g k j (order_differs e s d c n) (claims_differ f m) = absurd (m s)
one_content o p g k j (order_differs e s d c n) (digests_differ f t m) = absurd (m d)
one_content o p g k j (order_differs e s d c n) (decoys_differ f t b m) = absurd (m c)
one_content o p g k j (order_differs e s d c n) (order_differs f t b a m) = e ∙ sym f

one_part : (o : Order) (alg : Text) (accepts : Meaning) (token : Token) (k j : ℕ) → DiffersIn o alg accepts token k → DiffersIn o alg accepts token j → k ≡ j
one_part o alg accepts token k j (signed_differs e n) (signed_differs f m) = e ∙ sym f
one_part o alg accepts token k j (signed_differs e n) (written_differs f s m) = absurd (n s)
one_part o alg accepts token k j (signed_differs e n) (content_differs s p g w d) = absurd (n s)
one_part o alg accepts token k j (written_differs e s n) (signed_differs f m) = absurd (m s)
one_part o alg accepts token k j (written_differs e s n) (written_differs f t m) = e ∙ sym f
one_part o alg accepts token k j (written_differs e s n) (content_differs t p g w d) = absurd (n p g w)
one_part o alg accepts token k j (content_differs s p g w d) (signed_differs f m) = absurd (m s)
one_part o alg accepts token k j (content_differs s p g w d) (written_differs f t m) = absurd (m p g w)
one_part o alg accepts token k j (content_differs s p g w d) (content_differs t q h v e) =
    let body = one_body o token.parts p q g h w v in
    let given = one_given o.hash token.parts.disclosures g h w.disclosures v.disclosures in
    one_content o (without_alg q) h k j (subst (λ r. ContentDiffers o (without_alg r) h k) body (subst (λ xs. ContentDiffers o (without_alg p) xs k) given d)) e

no_content : (o : Order) (p : Tree) (g : List Given) (k : ℕ) → IsAuditedFor o p g → ContentDiffers o p g k → ⊥
no_content o p g k a (claims_differ e n) = n a.shows
no_content o p g k a (digests_differ e s n) = n a.digests
no_content o p g k a (decoys_differ e s d n) = n a.decoys
no_content o p g k a (order_differs e s d c n) = n a.sorted

no_part : (o : Order) (alg : Text) (accepts : Meaning) (token : Token) (k : ℕ) → IsAudited o alg accepts token → DiffersIn o alg accepts token k → ⊥
no_part o alg accepts token k a (signed_differs e n) = n a.signed
no_part o alg accepts token k a (written_differs e s n) = n a.body a.given a.written
no_part o alg accepts token k a (content_differs s p g w d) =
    let body = one_body o token.parts p a.body g a.given w a.written in
    let given = one_given o.hash token.parts.disclosures g a.given w.disclosures a.written.disclosures in
    no_content o (without_alg a.body) a.given k a.audited (subst (λ r. ContentDiffers o (without_alg r) a.given k) body (subst (λ xs. ContentDiffers o (without_alg p) xs k) given d))

order_one : (o : Order) (e f : IssueError) → IsLowestRefusal (AppliesToOrder o) e → IsLowestRefusal (AppliesToOrder o) f → issue_number e ≡ issue_number f
order_one o e f a b = let x = a.lowest f b.applies in let y = b.lowest e a.applies in omega (arith, x, y)

passes_alone : (o : Order) (alg : Text) (accepts : Meaning) (content : Text) (e : AuditError) → PassesAudit o alg accepts content → FailsAudit o alg accepts content e → ⊥
passes_alone o alg accepts content e p (of_order refusal lowest at) = p.passes refusal lowest.applies
passes_alone o alg accepts content e p (of_text fault none refused at) = not_both content p.token fault p.is_token refused
passes_alone o alg accepts content e p (of_part token k none read differs at) =
    no_part o alg accepts p.token k p.audited (subst (λ t. DiffersIn o alg accepts t k) (one_token content token p.token read p.is_token) differs)

one_failure : (o : Order) (alg : Text) (accepts : Meaning) (content : Text) (e f : AuditError) → FailsAudit o alg accepts content e → FailsAudit o alg accepts content f → e ≡ f
one_failure o alg accepts content e f (of_order r a at) (of_order s b bt) = at ∙ ap OnOrder (order_one o r s a b) ∙ sym bt
one_failure o alg accepts content e f (of_order r a at) (of_text x n b bt) = absurd (n r a.applies)
one_failure o alg accepts content e f (of_order r a at) (of_part t k n b d bt) = absurd (n r a.applies)
one_failure o alg accepts content e f (of_text x n a at) (of_order s b bt) = absurd (n s b.applies)
one_failure o alg accepts content e f (of_text x n a at) (of_text y m b bt) = at ∙ ap OnCondition (one_refusal content x y a b) ∙ sym bt
one_failure o alg accepts content e f (of_text x n a at) (of_part t k m b d bt) = absurd (not_both content t x b a)
one_failure o alg accepts content e f (of_part t k n a d at) (of_order s b bt) = absurd (n s b.applies)
one_failure o alg accepts content e f (of_part t k n a d at) (of_text y m b bt) = absurd (not_both content t y a b)
one_failure o alg accepts content e f (of_part t k n a d at) (of_part u j m b c bt) =
    at ∙ ap Part (one_part o alg accepts u k j (subst (λ z. DiffersIn o alg accepts z k) (one_token content t u a b) d) c) ∙ sym bt

pub one_verdict : (o : Order) (alg : Text) (accepts : Meaning) (content : Text) → HasOneVerdict o alg accepts content
one_verdict o alg accepts content = record { not_both = λ e. passes_alone o alg accepts content e; one_error = one_failure o alg accepts content }

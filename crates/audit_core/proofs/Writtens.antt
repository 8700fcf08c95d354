-- When a text is not written as it is to be: what is read of it is the one thing that it could be the text of.
use Rattle.std.proofs.Common.{◌≡◌, ◌<◌, ◌≤◌, arith, List, [], ◌∷◌, ◌++◌, length, Option, Some, None, inl, inr, sym, ap, ◌∙◌, subst}
use Rattle.sd_outside.specs.Lists.{In}
use Rattle.sd_outside.proofs.Lists.{In-append}
use Rattle.std.specs.List.{AllZip}
use Rattle.b64url_text.specs.Base64url.{b64, Decodes}
use Rattle.b64url_text.proofs.Lengths.{length-b64}
use Rattle.claim_tree.specs.Tree.{Text, Tree, leaf, text, array, object}
use Rattle.claim_tree.specs.JsonText.{Reads}
use Rattle.claim_tree.proofs.OneTree.{one_tree}
use Rattle.digest_sites.specs.Given.{Given}
use Rattle.disclosure.specs.Digest.{hash_name}
use Rattle.disclosure.specs.Disclosure.{array_of}
use Rattle.disclosure.specs.DisclosureRefusals.{IsNoArray}
use Rattle.disclosure.specs.declared.digests.HashAlg.{HashAlg}
use Rattle.disclosure.proofs.Arrays.{array_of-injective}
use Rattle.jws_part.proofs.Parts.{one_carried}
use Rattle.rebuild_core.specs.Answer.{IsPayload}
use Rattle.rebuild_core.specs.Payload.{alg_name}
use Rattle.audit_core.specs.Audited.{IsWrittenAs, IsSaltedText, GivesSalted, IsDigestText, hash_length}
use Rattle.audit_core.specs.AuditSteps.{NamesHash, IsUnsalted, IsOtherPayload}
use Rattle.audit_core.proofs.Unwritten.{same_reads}

-- ---- a disclosure

-- it gives nothing else than what is read, of which the salt was any
pub one_salted : (disclosure json : Text) (salt : Tree) (name n : Option Text) (value v : Tree) → Decodes disclosure json → Reads json (array_of salt name value) → IsSaltedText disclosure n v → IsSaltedText disclosure name value
one_salted disclosure json salt name n value v d r w =
    let reads = same_reads disclosure json (array_of (leaf (text w.salt)) n v) d w.written in
    let same = array_of-injective salt (leaf (text w.salt)) name n value v (one_tree json _ _ r reads) in
    subst (λ m. IsSaltedText disclosure m value) (sym same.1) (subst (λ u. IsSaltedText disclosure n u) (sym same.2) w)

pub no_array_unsalted : (disclosure json : Text) (t : Tree) → Decodes disclosure json → Reads json t → IsNoArray t → IsUnsalted disclosure
no_array_unsalted disclosure json t d r none name value w =
    let salt = leaf (text w.salt) in
    none salt name value (one_tree json t (array_of salt name value) r (same_reads disclosure json (array_of salt name value) d w.written))

-- a digest has no more letters than the longest hash takes
pub short_digest : (hash : HashAlg) (digest : Text) → 86 < length digest → IsDigestText hash digest → ⊥
short_digest hash digest l s =
    let few = length-b64 s.bytes in
    let many : length digest ≡ length (b64 s.bytes) = ap length s.decodes.spelling in
    absurd (omega (arith, few, many, s.long, longest hash, l))
  where
    longest : (hash : HashAlg) → hash_length hash ≤ 64
    longest HashAlg.Sha256 = omega arith
    longest HashAlg.Sha384 = omega arith
    longest HashAlg.Sha512 = omega arith

-- ---- a payload

no_name : {A : Type 0} (t : Tree) → ◌≡◌ {A = Option Tree} None (Some t) → A
no_name t e = absurd (cc)

pub other_payload : (hash : HashAlg) (part : Text) (body : Tree) → IsWrittenAs part body → (NamesHash hash body → ⊥) → IsOtherPayload hash part
other_payload hash part body written n other w names = n (subst (NamesHash hash) (sym (one_carried part body other written.carried w.carried)) names)

some_tree : (t u : Tree) → ◌≡◌ {A = Option Tree} (Some t) (Some u) → t ≡ u
some_tree t u e = cc

pub is_payload : (hash : HashAlg) (body : Tree) → NamesHash hash body → IsPayload body
unfolding alg_name
is_payload hash (object ms) n = λ t e. (hash_name hash, some_tree t (leaf (text (hash_name hash))) (sym e ∙ n))
is_payload hash (leaf l) n = no_name _ n
is_payload hash (array es) n = no_name _ n

-- ---- several disclosures

-- one of them is none, so they give nothing
pub one_unsalted : (hash : HashAlg) (ds : List Text) (d : Text) (es : List Text) → IsUnsalted d → (xs : List Given) → AllZip (GivesSalted hash) (ds ++ d ∷ es) xs → ⊥
one_unsalted hash [] d es n [] z = z
one_unsalted hash [] d es n (x ∷ xs) z = n x.name x.value z.0.salted
one_unsalted hash (e ∷ ds) d es n [] z = z
one_unsalted hash (e ∷ ds) d es n (x ∷ xs) z = one_unsalted hash ds d es n xs z.1

pub values_more : {P : Given → Type 0} (xs : List Given) (x : Given) → ((y : Given) → In y xs → P y) → P x → (y : Given) → In y (xs ++ x ∷ []) → P y
values_more {P} xs x h p y m = elim (In-append y xs (x ∷ []) m) [ inl a ↦ h y a | inr a ↦ last a ]
  where
    last : In y (x ∷ []) → P y
    last (inl e) = subst P (sym e) p
    last (inr b) = absurd b

-- What the steps of a check say of the conditions on the token.
use Rattle.std.proofs.Common.{◌≡◌, ℕ, zero, suc, ◌<◌, ◌≤◌, List, [], ◌∷◌, take, Some, None, refl, sym, ap, subst, ◌∙◌, arith, rules}
use Rattle.std.specs.List.{AllZip}
use Rattle.claim_tree.specs.Tree.{Text, Tree, Members, leaf, null, flag, whole, text, array, object, depth}
use Rattle.sd_outside.specs.Lists.{StandsAt, AtNone, IsLeast}
use Rattle.sd_outside.proofs.Lists.{got_stands}
use Rattle.refusals.specs.declared.fault.Fault.{Fault}
use Rattle.refusals.specs.declared.fault.Place.{Place}
use Rattle.refusals.specs.declared.fault.Place.TheVariants.{At}
use Rattle.json_form.specs.declared.token.Token.{Token}
use Rattle.jws_part.specs.declared.header.Header.{Header}
use Rattle.jws_part.specs.Part.{IsBody}
use Rattle.jws_part.proofs.Headers as headers
use Rattle.jws_part.proofs.Parts as bodies
use Rattle.disclosure.specs.Digest.{payload_hash, hash_of_name}
use Rattle.disclosure.specs.declared.digests.HashAlg.{HashAlg}
use Rattle.disclosure.proofs.Verdicts as readings
use Rattle.digest_sites.specs.Given.{Given}
use Rattle.digest_sites.proofs.OneGiven.{one_given}
use Rattle.marked_tree.specs.Marked.{Marked, strip}
use Rattle.rebuild_core.specs.Payload.{alg_name, without_alg}
use Rattle.rebuild_core.specs.Opening.{processed}
use Rattle.rebuild_core.specs.Answer.{IsPayload, IsProcessRefused}
use Rattle.rebuild_core.specs.Conditions as opening
use Rattle.rebuild_core.specs.Soundness as opening2
use Rattle.rebuild_core.specs.declared.errors.ProcessError.{ProcessError}
use Rattle.refusals.specs.declared.condition.Condition.{Condition}
use Rattle.verifier_core.specs.Verdict.{Rules, HasHeader, HasPayload, IsAlgRefusedBy, IsTypeRefused, IsUnknownBy, IsBadBy, IsNoDisclosure, Gives, HasContent, OfContent, TokenFails, IsChecked}
use Rattle.verifier_core.specs.Check.{OnFault, IsUncounted, process_fault, IsSigned, IsSignedFault, bad_header, critical, bad_alg, bad_type, no_key, not_signed, IsPayloadFault, no_body, no_hash, IsUnreadAt}
use Rattle.verifier_core.specs.declared.token_checking.VerifyError.{VerifyError}
use Rattle.verifier_core.proofs.TokenConditions.{finish, start}
use Rattle.refusals.specs.Lowest.{Unplaced, Numbered, IsLowest}
use Rattle.refusals.specs.Condition.{number_of}
use Rattle.refusals.specs.Faults.{placed, unplaced}
use Rattle.refusals.specs.Passing.{Passes}
use Rattle.refusals.proofs.Lowest.{holds_too, refuse_unplaced}
use Rattle.verifier_core.proofs.LeastPlaces.{refuse_placed}

-- ---- one header

same_header : (token : Token) (h k : Header) → HasHeader token h → HasHeader token k → h ≡ k
same_header token h k a b = headers.one_header token.parts.signed.protected token.outer h k a b

none_of : (P : Header → Type 0) (token : Token) (h : Header) → HasHeader token h → (P h → ⊥) → (place : Place) → Unplaced ((header : Header) × HasHeader token header × P header) place → ⊥
none_of P token h has none place (is, (k, other, p)) = none (subst P (same_header token k h other has) p)

at7 : (token : Token) (rules : Rules) (h : Header) → HasHeader token h → Passes 7 (TokenFails token rules)
at7 token rules h has =
    holds_too (TokenFails token rules) Condition.HeaderCritical
    (holds_too (TokenFails token rules) Condition.HeaderUnreadable (start token rules) (λ place w. headers.read_not_unreadable token.parts.signed.protected token.outer h has w.1))
    (λ place w. headers.read_not_critical token.parts.signed.protected token.outer h has w.1)

at8 : (token : Token) (rules : Rules) (h : Header) → HasHeader token h → (IsAlgRefusedBy rules.issuers h.alg → ⊥) → Passes 8 (TokenFails token rules)
at8 token rules h has alg = holds_too (TokenFails token rules) Condition.AlgRefused (at7 token rules h has) (none_of (λ x. IsAlgRefusedBy rules.issuers x.alg) token h has alg)

at9 : (token : Token) (rules : Rules) (h : Header) → HasHeader token h → (IsAlgRefusedBy rules.issuers h.alg → ⊥) → (IsTypeRefused rules.typ h.typ → ⊥) → Passes 9 (TokenFails token rules)
at9 token rules h has alg typ = holds_too (TokenFails token rules) Condition.TypeRefused (at8 token rules h has alg) (none_of (λ x. IsTypeRefused rules.typ x.typ) token h has typ)

at10 : (token : Token) (rules : Rules) (h : Header) → HasHeader token h → (IsAlgRefusedBy rules.issuers h.alg → ⊥) → (IsTypeRefused rules.typ h.typ → ⊥) → (IsUnknownBy rules.issuers h token.parts.signed → ⊥)
    → Passes 10 (TokenFails token rules)
at10 token rules h has alg typ known = holds_too (TokenFails token rules) Condition.IssuerKeyUnknown (at9 token rules h has alg typ) (none_of (λ x. IsUnknownBy rules.issuers x token.parts.signed) token h has known)

pub signed_passes : (token : Token) (rules : Rules) → IsSigned token.parts.signed token.outer rules → Passes 11 (TokenFails token rules)
signed_passes token rules s =
    holds_too (TokenFails token rules) Condition.BadSignature (at10 token rules s.header s.is_header s.alg s.typ s.known)
    (none_of (λ x. IsBadBy rules.issuers x token.parts.signed) token s.header s.is_header s.good)

pub signed_fault : (token : Token) (rules : Rules) (fault : Fault) → IsSignedFault token.parts.signed token.outer rules fault → IsLowest (TokenFails token rules) fault
signed_fault token rules fault (bad_header w is) = refuse_unplaced (TokenFails token rules) Condition.HeaderUnreadable fault is (start token rules) (refl, w)
signed_fault token rules fault (critical w is) =
    refuse_unplaced (TokenFails token rules) Condition.HeaderCritical fault is
    (holds_too (TokenFails token rules) Condition.HeaderUnreadable (start token rules) (λ place u. headers.critical_not_unreadable token.parts.signed.protected token.outer w u.1))
    (refl, w)
signed_fault token rules fault (bad_alg h has w is) = refuse_unplaced (TokenFails token rules) Condition.AlgRefused fault is (at7 token rules h has) (refl, (h, has, w))
signed_fault token rules fault (bad_type h has alg w is) = refuse_unplaced (TokenFails token rules) Condition.TypeRefused fault is (at8 token rules h has alg) (refl, (h, has, w))
signed_fault token rules fault (no_key h has alg typ w is) = refuse_unplaced (TokenFails token rules) Condition.IssuerKeyUnknown fault is (at9 token rules h has alg typ) (refl, (h, has, w))
signed_fault token rules fault (not_signed h has alg typ known w is) = refuse_unplaced (TokenFails token rules) Condition.BadSignature fault is (at10 token rules h has alg typ known) (refl, (h, has, w))

-- ---- one payload

at12 : (token : Token) (rules : Rules) (body : Tree) → Passes 11 (TokenFails token rules) → HasPayload token body → Passes 12 (TokenFails token rules)
at12 token rules body passes has = holds_too (TokenFails token rules) Condition.PayloadUnreadable passes (λ place w. bodies.not_both token.parts.signed.payload body has w.1)

pub payload_passes : (token : Token) (rules : Rules) (body : Tree) (hash : HashAlg) → Passes 11 (TokenFails token rules) → HasPayload token body → payload_hash body ≡ Some hash → Passes 13 (TokenFails token rules)
payload_passes token rules body hash passes has hash_is = holds_too (TokenFails token rules) Condition.HashUnknown (at12 token rules body passes has) go
  where
    go : (place : Place) → TokenFails token rules Condition.HashUnknown place → ⊥
    go place (is, (other, other_has, none)) =
        let same : other ≡ body = bodies.one_body token.parts.signed.payload other body other_has has in
        let both : Some hash ≡ None = sym hash_is ∙ (ap payload_hash (sym same) ∙ none) in
        absurd (cc both)

pub payload_fault : (token : Token) (rules : Rules) (fault : Fault) → Passes 11 (TokenFails token rules) → IsPayloadFault token.parts.signed.payload fault → IsLowest (TokenFails token rules) fault
payload_fault token rules fault passes (no_body w is) = refuse_unplaced (TokenFails token rules) Condition.PayloadUnreadable fault is passes (refl, w)
payload_fault token rules fault passes (no_hash body has w is) = refuse_unplaced (TokenFails token rules) Condition.HashUnknown fault is (at12 token rules body passes has) (refl, (body, has, w))

-- ---- one list of what is given

-- a disclosure that is read is not one that is not
pub read_unread : (hash : HashAlg) (d : Text) (x : Given) → Gives hash d x → IsNoDisclosure d → ⊥
read_unread hash d x g u = u g.1 x.name x.value g.2

pub all_read : (hash : HashAlg) (ds : List Text) (xs : List Given) (i : ℕ) (d : Text) → AllZip (Gives hash) ds xs → StandsAt ds i d → IsNoDisclosure d → ⊥
all_read hash [] xs i d all there u = there
all_read hash (e ∷ ds) [] i d all there u = all
all_read hash (e ∷ ds) (x ∷ xs) zero d all there u = read_unread hash e x all.0 (subst IsNoDisclosure there u)
all_read hash (e ∷ ds) (x ∷ xs) (suc i) d all there u = all_read hash ds xs i d all.1 there u

front_read : (hash : HashAlg) (ds : List Text) (xs : List Given) (i j : ℕ) (d : Text) → AllZip (Gives hash) (take i ds) xs → j < i → StandsAt ds j d → IsNoDisclosure d → ⊥
front_read hash [] xs i j d all below there u = there
front_read hash (e ∷ ds) xs zero j d all below there u = absurd (omega (arith, below))
front_read hash (e ∷ ds) [] (suc i) j d all below there u = all
front_read hash (e ∷ ds) (x ∷ xs) (suc i) zero d all below there u = read_unread hash e x all.0 (subst IsNoDisclosure there u)
front_read hash (e ∷ ds) (x ∷ xs) (suc i) (suc j) d all below there u = front_read hash ds xs i j d all.1 (omega (arith, below)) there u

abbrev UnreadAt : Token → ℕ → Type 0
UnreadAt token i = (disclosure : Text) × StandsAt token.parts.disclosures i disclosure × IsNoDisclosure disclosure

pub given_passes : (token : Token) (rules : Rules) (hash : HashAlg) (given : List Given) → Passes 13 (TokenFails token rules) → AllZip (Gives hash) token.parts.disclosures given → Passes 14 (TokenFails token rules)
given_passes token rules hash given passes read =
    holds_too (TokenFails token rules) Condition.DisclosureUnreadable passes (λ place w. all_read hash token.parts.disclosures given w.0 w.2.0 read w.2.1 w.2.2)

pub given_fault : (token : Token) (rules : Rules) (hash : HashAlg) (fault : Fault) → Passes 13 (TokenFails token rules) → IsUnreadAt hash token.parts.disclosures fault → IsLowest (TokenFails token rules) fault
given_fault token rules hash fault passes u =
    subst (IsLowest (TokenFails token rules)) (sym u.fault_is)
    (refuse_placed (TokenFails token rules) Condition.DisclosureUnreadable (UnreadAt token) u.i (λ place h. h) (λ h. (u.i, refl, h)) passes
    (record {
      fails = (u.disclosure, got_stands token.parts.disclosures u.i u.disclosure u.there, u.unread);
      first = λ j below w. front_read hash token.parts.disclosures u.before u.i j w.0 u.read below w.1 w.2;
    }))

-- ---- one content

given_same : (hash : HashAlg) (d : Text) (x y : Given) → Gives hash d x → Gives hash d y → x ≡ y
given_same hash d x y g h =
    let same = readings.one_disclosure d g.1 h.1 x.name y.name x.value y.value g.2 h.2 in
    one_given x y (g.0 ∙ sym h.0) same.1 same.2

pub one_list : (hash : HashAlg) (ds : List Text) (xs ys : List Given) → AllZip (Gives hash) ds xs → AllZip (Gives hash) ds ys → xs ≡ ys
one_list hash [] [] [] g h = refl
one_list hash (d ∷ ds) (x ∷ xs) (y ∷ ys) g h =
    let first : x ≡ y = given_same hash d x y g.0 h.0 in
    let others : xs ≡ ys = one_list hash ds xs ys g.1 h.1 in
    cc
one_list hash _ _ _ g h = search rules

pub one_content : (token : Token) (p q : Tree) (g h : List Given) → HasContent token p g → HasContent token q h → (p ≡ q) × (g ≡ h)
one_content token p q g h a b =
    let bodies_same : a.body ≡ b.body = bodies.one_body token.parts.signed.payload a.body b.body a.is_body b.is_body in
    let hashes : Some a.hash ≡ Some b.hash = sym a.hash_is ∙ (ap payload_hash bodies_same ∙ b.hash_is) in
    let hash_same : a.hash ≡ b.hash = cc hashes in (
      a.payload_is ∙ (ap without_alg bodies_same ∙ sym b.payload_is),
      one_list b.hash token.parts.disclosures g h (subst (λ x. AllZip (Gives x) token.parts.disclosures g) hash_same a.disclosures) b.disclosures,
    )

-- a condition on the content is one on this content
here : (C : Tree → List Given → ℕ → Type 0) (token : Token) (p : Tree) (g : List Given) → HasContent token p g → (i : ℕ) → OfContent C token i → C p g i
here C token p g has i (q, h, other, fails) =
    let same = one_content token q p h g other has in
    subst (λ x. C p x i) same.1 (subst (λ x. C x h i) same.0 fails)

nowhere : (C : Tree → List Given → ℕ → Type 0) (token : Token) (p : Tree) (g : List Given) → HasContent token p g → AtNone (C p g) → (place : Place) → Numbered (OfContent C token) place → ⊥
nowhere C token p g has none place w = none w.0 (here C token p g has w.0 w.2)

least : (C : Tree → List Given → ℕ → Type 0) (token : Token) (p : Tree) (g : List Given) → HasContent token p g → (i : ℕ) → IsLeast (C p g) i → IsLeast (OfContent C token) i
least C token p g has i l = record { fails = (p, g, has, l.fails); first = λ j below w. l.first j below (here C token p g has j w) }

-- ---- the conditions 14 to 21

abbrev Doubled : Tree → List Given → ℕ → Type 0
Doubled p g i = opening.RepeatedDisclosure g i

module _ (token : Token) (rules : Rules) (p : Tree) (g : List Given) (has : HasContent token p g) where
  at15 : Passes 14 (TokenFails token rules) → AtNone (opening.RepeatedDisclosure g) → Passes 15 (TokenFails token rules)
  at15 passes none = holds_too (TokenFails token rules) Condition.RepeatedDisclosure passes (nowhere Doubled token p g has none)

  at16 : Passes 15 (TokenFails token rules) → AtNone (opening.Misused p g) → Passes 16 (TokenFails token rules)
  at16 passes none = holds_too (TokenFails token rules) Condition.ReservedMisused passes (nowhere opening.Misused token p g has none)

  at17 : Passes 16 (TokenFails token rules) → AtNone (opening.RepeatedDigest p g) → Passes 17 (TokenFails token rules)
  at17 passes none = holds_too (TokenFails token rules) Condition.RepeatedDigest passes (nowhere opening.RepeatedDigest token p g has none)

  at18 : Passes 14 (TokenFails token rules) → opening2.IsReferencedOnce p g → Passes 18 (TokenFails token rules)
  at18 passes r =
      holds_too (TokenFails token rules) Condition.UnreferencedDisclosure
      (at17 (at16 (at15 passes r.no_repeated_disclosure) r.no_misuse) r.no_repeated_digest)
      (nowhere opening.Unreferenced token p g has r.no_unreferenced)

  at19 : Passes 18 (TokenFails token rules) → AtNone (opening.WrongShape p g) → Passes 19 (TokenFails token rules)
  at19 passes none = holds_too (TokenFails token rules) Condition.WrongShape passes (nowhere opening.WrongShape token p g has none)

  at20 : Passes 19 (TokenFails token rules) → AtNone (opening.ReservedName p g) → Passes 20 (TokenFails token rules)
  at20 passes none = holds_too (TokenFails token rules) Condition.ReservedName passes (nowhere opening.ReservedName token p g has none)

  at21 : Passes 14 (TokenFails token rules) → opening2.IsReferencedOnce p g → opening2.IsWellNamed p g → Passes 21 (TokenFails token rules)
  at21 passes r n = holds_too (TokenFails token rules) Condition.NameClash (at20 (at19 (at18 passes r) n.no_wrong_shape) n.no_reserved_name) (nowhere opening.NameClash token p g has n.no_name_clash)

  shallow : depth (strip (processed p g)) ≤ 100 → (place : Place) → TokenFails token rules Condition.TooDeep place → ⊥
  shallow low place (is, (q, h, other, deep)) =
      let same = one_content token q p h g other has in
      let here_deep : opening.IsTooDeep p g = subst (λ x. opening.IsTooDeep p x) same.1 (subst (λ x. opening.IsTooDeep x h) same.0 deep) in
      absurd (omega (arith, low, here_deep))

  pub content_passes : Passes 14 (TokenFails token rules) → opening2.IsSound p g → Passes 22 (TokenFails token rules)
  content_passes passes s = holds_too (TokenFails token rules) Condition.TooDeep (at21 passes s.referenced s.named) (shallow s.shallow)

  -- a condition that fails first at this number
  first_at : (d : Condition) (C : Tree → List Given → ℕ → Type 0) (i : ℕ) → ((place : Place) → TokenFails token rules d place → Numbered (OfContent C token) place) → (OfContent C token i → TokenFails token rules d (At i))
      → Passes (number_of d) (TokenFails token rules) → IsLeast (C p g) i → IsLowest (TokenFails token rules) (placed d i)
  first_at d C i is back passes fails = refuse_placed (TokenFails token rules) d (OfContent C token) i is back passes (least C token p g has i fails)

  -- a refusal to process is the lowest condition that fails
  pub content_fault : Passes 14 (TokenFails token rules) → (e : ProcessError) → IsProcessRefused p g e → OnFault (process_fault e) (IsLowest (TokenFails token rules))
  content_fault passes ProcessError.Memory r = tt
  content_fault passes (ProcessError.RepeatedDisclosure i) r = first_at Condition.RepeatedDisclosure Doubled i (λ place h. h) (λ h. (i, refl, h)) passes r
  content_fault passes (ProcessError.ReservedMisused i) r = first_at Condition.ReservedMisused opening.Misused i (λ place h. h) (λ h. (i, refl, h)) (at15 passes r.0) r.1
  content_fault passes (ProcessError.RepeatedDigest i) r = first_at Condition.RepeatedDigest opening.RepeatedDigest i (λ place h. h) (λ h. (i, refl, h)) (at16 (at15 passes r.0) r.1) r.2
  content_fault passes (ProcessError.Unreferenced i) r = first_at Condition.UnreferencedDisclosure opening.Unreferenced i (λ place h. h) (λ h. (i, refl, h)) (at17 (at16 (at15 passes r.0) r.1) r.2) r.3
  content_fault passes (ProcessError.WrongShape i) r = first_at Condition.WrongShape opening.WrongShape i (λ place h. h) (λ h. (i, refl, h)) (at18 passes r.0) r.1
  content_fault passes (ProcessError.ReservedName i) r = first_at Condition.ReservedName opening.ReservedName i (λ place h. h) (λ h. (i, refl, h)) (at19 (at18 passes r.0) r.1) r.2
  content_fault passes (ProcessError.NameClash i) r = first_at Condition.NameClash opening.NameClash i (λ place h. h) (λ h. (i, refl, h)) (at20 (at19 (at18 passes r.0) r.1) r.2) r.3
  content_fault passes ProcessError.TooDeep r = refuse_unplaced (TokenFails token rules) Condition.TooDeep (unplaced Condition.TooDeep) refl (at21 passes r.0 r.1) (refl, (p, g, has, r.2))

-- ---- from step to step

pub on_fault : (e : VerifyError) (P Q : Fault → Type 0) → ((fault : Fault) → P fault → Q fault) → OnFault e P → OnFault e Q
on_fault VerifyError.Memory P Q more h = tt
on_fault (VerifyError.Fault fault) P Q more h = more fault h

-- what names a hash is a text
known_text : (t : Tree) (hash : HashAlg) → hash_of_name (Some t) ≡ Some hash → (s : Text) × (t ≡ leaf (text s))
known_text (leaf (text s)) hash e = (s, refl)
known_text (leaf null) hash e = absurd (cc e)
known_text (leaf (flag b)) hash e = absurd (cc e)
known_text (leaf (whole z)) hash e = absurd (cc e)
known_text (array es) hash e = absurd (cc e)
known_text (object ms) hash e = absurd (cc e)

object_payload : (ms : Members) (hash : HashAlg) → payload_hash (object ms) ≡ Some hash → IsPayload (object ms)
unfolding alg_name
object_payload ms hash e t there = known_text t hash (ap hash_of_name (sym there) ∙ e)

pub is_payload : (part : Text) (t : Tree) (hash : HashAlg) → IsBody part t → payload_hash t ≡ Some hash → IsPayload t
is_payload part t hash b e = subst IsPayload (sym b.is_object) (object_payload b.members hash (subst (λ x. payload_hash x ≡ Some hash) b.is_object e))

pub content_checked : (token : Token) (rules : Rules) (p : Tree) (g : List Given) (marked : Marked) → HasContent token p g → Passes 14 (TokenFails token rules) → opening2.IsSound p g → marked ≡ processed p g → IsChecked token rules marked
content_checked token rules p g marked has passes sound is = record {
  passes = finish token rules (content_passes token rules p g has passes sound);
  opens = (p, g, has, is);
}

-- ---- what is looked up

-- only where the conditions 1 to 13 are passed
pub passed_uncounted : (FailsSo : Condition → Place → Type 0) (old new : ℕ) → Passes 14 FailsSo → IsUncounted FailsSo old new
passed_uncounted FailsSo old new passes c place h low = let high = passes c place h in absurd (omega (arith, high, low))

-- What the tests of a check tell.
use Rattle.std.proofs.Common.{◌≡◌, ◌⊎◌, inl, inr, ℕ, List, [], ◌∷◌, ◌++◌, length, take, slice_get, Bool, true, false, not, bytes_eq, Option, Some, None, is_some, IsTrue, ◌↔◌, ⊎_elim, refl, sym, ap, subst, ◌∙◌}
use Rattle.std.specs.List.{AllZip}
use Rattle.std.specs.Option.{option_map}
use Rattle.compact_form.specs.Views.{jwt_of}
use Rattle.compact_form.specs.declared.view.JwtView.{JwtView}
use Rattle.claim_tree.specs.Tree.{Text, Tree}
use Rattle.compact_form.specs.declared.parts.JwtParts.{JwtParts}
use Rattle.compact_form.specs.declared.parts.Parts.{Parts}
use Rattle.hmac_sign.specs.Algs.{alg_of_text}
use Rattle.hmac_sign.specs.declared.alg.Alg.{Alg}
use Rattle.key_binding.specs.Judged.{BindingRules}
use Rattle.sd_outside.specs.Lists.{In}
use Rattle.sd_outside.proofs.Lists.{bytes_same, bytes_refl, In-append, In-At, At-In}
use Rattle.disclosure.specs.declared.digests.HashAlg.{HashAlg}
use Rattle.disclosure.specs.declared.errors.DisclosureError.{DisclosureError}
use Rattle.disclosure.specs.DisclosureRefusals.{IsDisclosureRefused}
use Rattle.disclosure.proofs.Verdicts as readings
use Rattle.digest_sites.specs.Given.{Given}
use Rattle.verifier_core.specs.Verdict.{Demands, IsAlgRefused, IsTypeRefused, IsIssuerRefused, NamesIssuer, IsBindingMissing, Gives, IsNoDisclosure}
use Rattle.verifier_core.specs.Check.{TestTells, OnFault, unread_at, IsUnreadAt}

pub type_told : (asked typ : Option Text) (name own : Text) → asked ≡ Some name → typ ≡ Some own → (b : Bool) → b ≡ not (bytes_eq own name) → TestTells b (IsTypeRefused asked typ)
type_told asked typ name own a t b is = subst (λ z. TestTells z (IsTypeRefused asked typ)) (sym is) (go (bytes_eq own name) refl)
  where
    go : (z : Bool) → bytes_eq own name ≡ z → TestTells (not z) (IsTypeRefused asked typ)
    go true e = λ w.
        let names : Some w.0 ≡ Some name = sym w.1 ∙ a in
        let same : own ≡ name = bytes_same own name e in
        w.2 (t ∙ (ap Some same ∙ sym names))
    go false e = (
      name,
      a,
      λ h.
          let both : Some own ≡ Some name = sym t ∙ h in
          let same : own ≡ name = cc both in
          let clash : false ≡ true = sym e ∙ bytes_refl own name same in
          cc clash,
    )

-- ---- what is given

pub unread_of : (text : Text) (e : DisclosureError) → IsDisclosureRefused text e → (e ≡ DisclosureError.Memory → ⊥) → IsNoDisclosure text
unread_of text e refused cause = λ salt name value is. cause (readings.not_both text salt name value e is refused)

pub more_in : (P : Given → Type 0) (old new : List Given) (x : Given) → new ≡ old ++ x ∷ [] → ((y : Given) → In y old → P y) → P x → (y : Given) → In y new → P y
more_in P old new x is each one y there = go (In-append y old (x ∷ []) (subst (λ zs. In y zs) is there))
  where
    go : In y old ⊎ In y (x ∷ []) → P y
    go (inl h) = each y h
    go (inr (inl same)) = subst P (sym same) one
    go (inr (inr h)) = absurd h

-- the refusal of a disclosure is that at its place
pub unread_told : (hash : HashAlg) (ds : List Text) (i : ℕ) (d : Text) (before : List Given) (e : DisclosureError) → slice_get ds i ≡ Some d → AllZip (Gives hash) (take i ds) before → IsDisclosureRefused d e
    → OnFault (unread_at i e) (IsUnreadAt hash ds)
unread_told hash ds i d before DisclosureError.Memory there read refused = tt
unread_told hash ds i d before DisclosureError.NotBase64 there read refused = record { i = i; disclosure = d; there = there; before = before; read = read; unread = unread_of d DisclosureError.NotBase64 refused (λ e. cc e); fault_is = refl }
unread_told hash ds i d before DisclosureError.NotJson there read refused = record { i = i; disclosure = d; there = there; before = before; read = read; unread = unread_of d DisclosureError.NotJson refused (λ e. cc e); fault_is = refl }
unread_told hash ds i d before DisclosureError.NotWhole there read refused = record { i = i; disclosure = d; there = there; before = before; read = read; unread = unread_of d DisclosureError.NotWhole refused (λ e. cc e); fault_is = refl }
unread_told hash ds i d before DisclosureError.NotDisclosure there read refused = record { i = i; disclosure = d; there = there; before = before; read = read; unread = unread_of d DisclosureError.NotDisclosure refused (λ e. cc e); fault_is = refl }

-- ---- disclosures that come one by one

front_of : (done : List Text) (d : Text) (rest : List Text) → take (length done) (done ++ d ∷ rest) ≡ done
front_of [] d rest = refl
front_of (x ∷ done) d rest = ap (λ t. x ∷ t) (front_of done d rest)

got_next : (done : List Text) (d : Text) (rest : List Text) → slice_get (done ++ d ∷ rest) (length done) ≡ Some d
got_next [] d rest = refl
got_next (x ∷ done) d rest = got_next done d rest

-- the next one is not read
pub next_unread : (hash : HashAlg) (ds done rest : List Text) (i : ℕ) (d : Text) (before : List Given) (e : DisclosureError) → ds ≡ done ++ d ∷ rest → i ≡ length done → AllZip (Gives hash) done before → IsDisclosureRefused d e
    → OnFault (unread_at i e) (IsUnreadAt hash ds)
next_unread hash ds done rest i d before e stand at read refused =
    let there : slice_get ds i ≡ Some d = subst (λ k. slice_get ds k ≡ Some d) (sym at) (subst (λ xs. slice_get xs (length done) ≡ Some d) (sym stand) (got_next done d rest)) in
    let front : take i ds ≡ done = subst (λ k. take k ds ≡ done) (sym at) (subst (λ xs. take (length done) xs ≡ done) (sym stand) (front_of done d rest)) in
    unread_told hash ds i d before e there (subst (λ xs. AllZip (Gives hash) xs before) (sym front) read) refused

-- ---- what a test tells

pub told : (b : Bool) (P : Type 0) → IsTrue b ↔ P → TestTells b P
told true P is = is.0 refl
told false P is = λ p. (let clash : false ≡ true = is.1 p in cc clash)

-- whether an algorithm that is known is among those
pub among_told : (algs : List Text) (name : Text) (alg : Alg) → alg_of_text name ≡ Some alg → (b : Bool) → IsTrue b ↔ In name algs → TestTells (not b) (IsAlgRefused algs name)
among_told algs name alg known true is = λ refused. ⊎_elim (λ none. let clash : Some alg ≡ None = sym known ∙ none in cc clash) (λ apart. let at = In-At algs name (is.0 refl) in apart at.0 at.1) refused
among_told algs name alg known false is = inr (λ i at. let clash : false ≡ true = is.1 (At-In algs i name at) in cc clash)

-- whether the claim is none of the issuers that are asked for
pub issuer_told : (asked : Option (List Text)) (issuers : List Text) (claim : Option Tree) → asked ≡ Some issuers → (b : Bool) → IsTrue b ↔ NamesIssuer issuers claim → IsTrue (not b) ↔ IsIssuerRefused asked claim
issuer_told asked issuers claim is true names = (
  λ h. cc h,
  λ refused. (let both : Some refused.0 ≡ Some issuers = sym refused.1 ∙ is in let same : refused.0 ≡ issuers = cc both in absurd (refused.2 (subst (λ x. NamesIssuer x claim) (sym same) (names.0 refl)))),
)
issuer_told asked issuers claim is false names = (λ h. (issuers, is, λ named. (let clash : false ≡ true = names.1 named in cc clash)), λ refused. refl)

pub some_seen : (sent : Option JwtView) → is_some (option_map jwt_of sent) ≡ is_some sent
some_seen None = refl
some_seen (Some token) = refl

-- whether a key binding token that is asked for is missing
pub missing_told : (demands : Demands) (parts : Parts) (rules : BindingRules) → demands.binding ≡ Some rules → (b : Bool) → is_some parts.binding ≡ not b → IsTrue b ↔ IsBindingMissing demands parts
missing_told demands parts rules asked b is = go parts.binding refl b is
  where
    go : (sent : Option JwtParts) → parts.binding ≡ sent → (c : Bool) → is_some sent ≡ not c → IsTrue c ↔ IsBindingMissing demands parts
    go None e true h = (λ t. (rules, asked, e), λ m. refl)
    go None e false h = cc h
    go (Some token) e true h = cc h
    go (Some token) e false h = (λ t. cc t, λ m. (let both : Some token ≡ None = sym e ∙ m.2 in cc both))

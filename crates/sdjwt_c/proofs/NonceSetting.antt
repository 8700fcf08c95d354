-- What a policy says of a nonce, by the number of the status.
use Rattle.std.proofs.Common.{◌≡◌, ◌<◌, ◌≤◌, ◌⊎◌, ⊎_elim, ℕ, List, Bool, true, false, Option, Some, None, Result, Ok, Err, length, refl, ap}
use Rattle.std.specs.Prelude.{◌↔◌, OnOk, OnErr, IsErrOf, IsSome, IsNone, is_some}
use Rattle.std.specs.Str.{IsUtf8}
use Rattle.std.proofs.lemmas.Bool.{cases_lt}
use Rattle.sd_outside.specs.Limits.{binding_text_max}
use Rattle.verifier_core.specs.Nonces.{with_nonce}
use Rattle.verifier_core.specs.declared.nonce.NonceError.{NonceError}
use Rattle.verifier_core.specs.declared.nonce.NonceError.TheVariants.{Memory, NoBinding, TooLong}
use Rattle.verifier_core.specs.declared.policy.Policy.{Policy}
use Rattle.sdjwt_c.specs.Policies.{TakesNonce, no_binding, too_long, SetsNonce, set, misused, no_memory}
use Rattle.sdjwt_c.specs.PolicySteps.{nonce_number}

true_if_not_false : (b : Bool) → (b ≡ false → ⊥) → b ≡ true
true_if_not_false true none = refl
true_if_not_false false none = absurd (none refl)

module _ (policy : Policy) (nonce : List ℕ) (utf8 : IsUtf8 nonce) where
  takes : (IsNone policy.binding → ⊥) → (IsSome policy.binding → binding_text_max < length nonce → ⊥) → TakesNonce nonce policy
  takes none long =
      let some = true_if_not_false (is_some policy.binding) none in
      record { binding = some; utf8 = utf8; short = not_longer (length nonce) (long some) }
    where
      not_longer : (n : ℕ) → (256 < n → ⊥) → n ≤ 256
      not_longer n h = ⊎_elim (λ l. absurd (h l)) (λ l. l) (cases_lt 256 n)

module _ {X : Type 0} (policy after : Policy) (nonce : List ℕ) (number : ℕ) (utf8 : IsUtf8 nonce) where
  pub nonce_told : (r : Result X NonceError) → OnOk r (after ≡ with_nonce policy nonce) → (IsErrOf r NoBinding ↔ IsNone policy.binding) → (IsErrOf r TooLong ↔ (IsSome policy.binding × (binding_text_max < length nonce)))
      → OnErr r (after ≡ policy) → number ≡ nonce_number r → SetsNonce (Some policy) nonce (Some after) number
  nonce_told (Ok x) ok none long kept is = set policy refl (takes policy nonce utf8 (λ n. let e = none.1 n in cc e) (λ s l. let e = long.1 (s, l) in cc e)) (ap (λ p. Some p) ok) is
  nonce_told (Err NoBinding) ok none long kept is = misused (no_binding policy refl (none.0 refl)) (ap (λ p. Some p) kept) is
  nonce_told (Err TooLong) ok none long kept is = misused (too_long (long.0 refl).1) (ap (λ p. Some p) kept) is
  nonce_told (Err Memory) ok none long kept is = no_memory policy refl (takes policy nonce utf8 (λ n. let e = none.1 n in cc e) (λ s l. let e = long.1 (s, l) in cc e)) (ap (λ p. Some p) kept) is

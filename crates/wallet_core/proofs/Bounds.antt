-- How many digests are looked up: in a text, and in all.
use Rattle.std.proofs.Common.{◌≡◌, ◌≢◌, ℕ, zero, suc, ◌+◌, ◌<◌, ◌≤◌, List, [], ◌∷◌, ◌++◌, take, get_or, length, ◌⊎◌, inl, inr, sym, subst, arith}
use Rattle.std.specs.Prelude.{sum}
use Rattle.std.proofs.lemmas.List.Sums.{sum_by-cons}
use Rattle.std.specs.List.{AllZip}
use Rattle.claim_tree.specs.Tree.{Text}
use Rattle.refusals.specs.Condition.{number_of}
use Rattle.refusals.specs.Passing.{Passes}
use Rattle.hmac_sign.specs.declared.key_set.NamedKey.{NamedKey}
use Rattle.holder_core.specs.Asked.{held_rules}
use Rattle.json_form.specs.Token.{IsToken}
use Rattle.json_form.specs.declared.token.Token.{Token}
use Rattle.rebuild_core.specs.LookUps.{RoseWithin}
use Rattle.verifier_core.specs.Check.{IsCountedWithin, IsUncounted}
use Rattle.verifier_core.specs.Verdict.{TokenFails}
use Rattle.wallet_core.specs.LookUps.{IsBound, RoseWithinSum}
use Rattle.wallet_core.specs.WalletSteps.{IsWithinBound}
use Rattle.wallet_core.proofs.Bests.{one_more}

one_or : (a b : ℕ) → (a ≡ b) ⊎ (a ≢ b)
one_or a b = grind arith

at_most_or : (n m : ℕ) → (n ≤ m) ⊎ (m < n)
at_most_or n m = grind arith

sum-cons : (n : ℕ) (ns : List ℕ) → sum (n ∷ ns) ≡ n + sum ns
sum-cons n ns = sum_by-cons (λ x. x) n ns

module _ (keys : List NamedKey) where
  -- where one of the conditions 5 to 13 fails nothing is looked up, and else no more than is said
  pub token_within : (content : Text) (token : Token) (old new : ℕ) → IsToken content token → IsCountedWithin token old new → IsUncounted (TokenFails token (held_rules keys)) old new
      → IsWithinBound keys content old new
  token_within content token old new is counted uncounted bound says = go (one_or new old)
    where
      passes : new ≢ old → Passes 14 (TokenFails token (held_rules keys))
      passes moved c place fails = high (at_most_or (number_of c) 13)
        where
          high : (number_of c ≤ 13) ⊎ (13 < number_of c) → 14 ≤ number_of c
          high (inl low) = absurd (moved (uncounted c place fails low))
          high (inr more) = omega (arith, more)

      within : new ≢ old → IsCountedWithin token old new → RoseWithin bound old new
      within moved (inl same) = absurd (moved same)
      within moved (inr h) = let most = says token h.0 h.1 is (passes moved) h.2 in (h.3.0, omega (arith, most, h.3.1))

      go : (new ≡ old) ⊎ (new ≢ old) → RoseWithin bound old new
      go (inl same) = (omega (arith, same), omega (arith, same))
      go (inr moved) = within moved counted

  zip_last : (xs : List Text) (x : Text) (bounds : List ℕ) → AllZip (IsBound keys) (xs ++ x ∷ []) bounds
      → (front : List ℕ) × (last : ℕ) × AllZip (IsBound keys) xs front × IsBound keys x last × (sum bounds ≡ sum front + last)
  zip_last [] x [] h = absurd h
  zip_last [] x (b ∷ []) h = ([], b, tt, h.0, omega (arith, sum-cons b []))
  zip_last [] x (b ∷ c ∷ bounds) h = absurd h.1
  zip_last (y ∷ xs) x [] h = absurd h
  zip_last (y ∷ xs) x (b ∷ bounds) h =
      let rest = zip_last xs x bounds h.1 in
      (b ∷ rest.0, rest.1, (h.0, rest.2), rest.3, omega (arith, rest.4, sum-cons b bounds, sum-cons b rest.0))

  -- one more
  pub more_within : (xs : List Text) (x : Text) (old between new : ℕ) → RoseWithinSum keys xs old between → IsWithinBound keys x between new → RoseWithinSum keys (xs ++ x ∷ []) old new
  more_within xs x old between new before after bounds h =
      let split = zip_last xs x bounds h in
      let front = before split.0 split.2 in
      let last = after split.1 split.3 in
      (omega (arith, front.0, last.0), omega (arith, front.1, last.1, split.4))

  -- the same in a turn of a loop
  pub turn_within : (xs : List Text) (k : ℕ) (x seen : Text) (old between new : ℕ) → k < length xs → x ≡ get_or xs k x → seen ≡ x → RoseWithinSum keys (take k xs) old between → IsWithinBound keys seen between new
      → RoseWithinSum keys (take (k + 1) xs) old new
  turn_within xs k x seen old between new within is same before after =
      subst (λ (ys : List Text). RoseWithinSum keys ys old new) (sym (one_more xs k x within is)) (more_within (take k xs) x old between new before (subst (λ (c : Text). IsWithinBound keys c between new) same after))

  zip_take : (k : ℕ) (xs : List Text) (bounds : List ℕ) → AllZip (IsBound keys) xs bounds → (front : List ℕ) × AllZip (IsBound keys) (take k xs) front × (sum front ≤ sum bounds)
  zip_take zero xs bounds h = ([], tt, omega arith)
  zip_take (suc k) [] bounds h = ([], tt, omega arith)
  zip_take (suc k) (x ∷ xs) [] h = absurd h
  zip_take (suc k) (x ∷ xs) (b ∷ bounds) h = let rest = zip_take k xs bounds h.1 in (b ∷ rest.0, (h.0, rest.1), omega (arith, rest.2, sum-cons b bounds, sum-cons b rest.0))

  -- the first of them
  pub all_within : (k : ℕ) (xs : List Text) (old new : ℕ) → RoseWithinSum keys (take k xs) old new → RoseWithinSum keys xs old new
  all_within k xs old new within bounds h =
      let front = zip_take k xs bounds h in
      let rose = within front.0 front.1 in
      (rose.0, omega (arith, rose.1, front.2))

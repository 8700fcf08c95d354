-- What is picked by a set is picked by the list of its numbers, in rising order.
use Rattle.std.proofs.Common.{◌≡◌, ◌⊎◌, inl, inr, ℕ, zero, suc, ◌+◌, ◌<◌, ◌≤◌, List, [], ◌∷◌, length, Bool, true, false, refl, sym, ap, subst, ◌∙◌, arith}
use Rattle.std.specs.Prelude.{if◌then◌else◌}
use Rattle.std.specs.List.{AllZip}
use Rattle.claim_tree.specs.Tree.{Text}
use Rattle.sd_outside.specs.Lists.{StandsAt, In}
use Rattle.digest_sites.specs.Given.{Given}
use Rattle.marked_tree.specs.Numbers.{AllAbove, IsRising}
use Rattle.marked_tree.proofs.NumberSets.{rising_distinct}
use Rattle.rebuild_core.specs.Laws.{Enumerates, IsPick}
use Rattle.holder_core.specs.Present.{picked}
use Rattle.holder_core.proofs.Picking.{picked_same}

-- the numbers of the set among n from the first on
abbrev pub numbers : (ℕ → Bool) → ℕ → ℕ → List ℕ
numbers s first zero = []
numbers s first (suc n) = if s first then first ∷ numbers s (suc first) n else numbers s (suc first) n

above_one : (i first : ℕ) (b : Bool) (rest : List ℕ) → i < first → AllAbove i rest → AllAbove i (if b then first ∷ rest else rest)
above_one i first true rest low all = (low, all)
above_one i first false rest low all = all

above : (s : ℕ → Bool) (i first n : ℕ) → i < first → AllAbove i (numbers s first n)
above s i first zero low = tt
above s i first (suc n) low = above_one i first (s first) (numbers s (suc first) n) low (above s i (suc first) n (omega (arith, low)))

pub rising : (s : ℕ → Bool) (first n : ℕ) → IsRising (numbers s first n)
rising s first zero = tt
rising s first (suc n) = go (s first) (rising s (suc first) n)
  where
    go : (b : Bool) → IsRising (numbers s (suc first) n) → IsRising (if b then first ∷ numbers s (suc first) n else numbers s (suc first) n)
    go true ih = (above s first (suc first) n (omega arith), ih)
    go false ih = ih

pub within : (s : ℕ → Bool) (first n i : ℕ) → In i (numbers s first n) → s i ≡ true
within s first zero i there = absurd there
within s first (suc n) i there = go (s first) refl (within s (suc first) n i) there
  where
    go : (b : Bool) → s first ≡ b → (In i (numbers s (suc first) n) → s i ≡ true) → In i (if b then first ∷ numbers s (suc first) n else numbers s (suc first) n) → s i ≡ true
    go true is rest (inl same) = ap s same ∙ is
    go true is rest (inr more) = rest more
    go false is rest more = rest more

pub whole : (s : ℕ → Bool) (first n i : ℕ) → first ≤ i → i < first + n → s i ≡ true → In i (numbers s first n)
whole s first zero i low high is = absurd (omega (arith, low, high))
whole s first (suc n) i low high is = go (s first) refl (either first i) (λ more. whole s (suc first) n i (omega (arith, more)) (omega (arith, high)) is)
  where
    either : (a b : ℕ) → (b ≡ a) ⊎ ((a < b) ⊎ (b < a))
    either a b = grind arith

    go : (b : Bool) → s first ≡ b → (i ≡ first) ⊎ ((first < i) ⊎ (i < first)) → (first < i → In i (numbers s (suc first) n)) → In i (if b then first ∷ numbers s (suc first) n else numbers s (suc first) n)
    go true e (inl same) rest = inl same
    go true e (inr (inl more)) rest = inr (rest more)
    go true e (inr (inr less)) rest = absurd (omega (arith, low, less))
    go false e (inl same) rest = let clash : true ≡ false = sym is ∙ (ap s same ∙ e) in cc clash
    go false e (inr (inl more)) rest = rest more
    go false e (inr (inr less)) rest = absurd (omega (arith, low, less))

pub enumerates : (s : ℕ → Bool) (n : ℕ) → ((i : ℕ) → s i ≡ true → i < n) → Enumerates s (numbers s 0 n)
enumerates s n below = record {
  distinct = rising_distinct (numbers s 0 n) (rising s 0 n);
  within = within s 0 n;
  whole = λ i is. (let low = below i is in whole s 0 n i (omega arith) (omega (arith, low)) is);
}

-- ---- the elements

-- the element at a place of the rest is that at a later place of the whole
abbrev Behind : List Given → ℕ → List Given → Type 0
Behind g first rest = (k : ℕ) (x : Given) → StandsAt rest k x → StandsAt g (first + k) x

pick_from : (s : ℕ → Bool) (g : List Given) (first : ℕ) (rest : List Given) → Behind g first rest → IsPick g (numbers s first (length rest)) (picked (λ k. s (first + k)) rest)
pick_from s g first [] behind = tt
pick_from s g first (x ∷ rest) behind = go (s first) (s (first + 0)) (ap s zero_right) (subst (IsPick g (numbers s (suc first) (length rest))) more (pick_from s g (suc first) rest later))
  where
    zero_right : first ≡ first + 0
    zero_right = omega arith

    later : Behind g (suc first) rest
    later k y there = subst (λ n. StandsAt g n y) (omega arith) (behind (suc k) y there)

    more : picked (λ k. s (suc first + k)) rest ≡ picked (λ k. s (first + suc k)) rest
    more = picked_same (λ k. s (suc first + k)) (λ k. s (first + suc k)) (λ k. ap s (omega arith)) rest

    here : StandsAt g first x
    here = subst (λ n. StandsAt g n x) (sym zero_right) (behind 0 x refl)

    go : (b c : Bool) → b ≡ c → IsPick g (numbers s (suc first) (length rest)) (picked (λ k. s (first + suc k)) rest)
        → IsPick g (if b then first ∷ numbers s (suc first) (length rest) else numbers s (suc first) (length rest)) (if c then x ∷ picked (λ k. s (first + suc k)) rest else picked (λ k. s (first + suc k)) rest)
    go true true e ih = (here, ih)
    go true false e ih = absurd (cc e)
    go false true e ih = absurd (cc e)
    go false false e ih = ih

pub is_pick : (s : ℕ → Bool) (g : List Given) → IsPick g (numbers s 0 (length g)) (picked s g)
is_pick s g =
    subst (IsPick g (numbers s 0 (length g))) (picked_same (λ k. s (0 + k)) s (λ k. ap s (zero_left k)) g)
    (pick_from s g 0 g (λ k x there. subst (λ n. StandsAt g n x) (sym (zero_left k)) there))
  where
    zero_left : (k : ℕ) → 0 + k ≡ k
    zero_left k = omega arith

pub zip_picked : (R : Text → Given → Type 0) (s : ℕ → Bool) (ds : List Text) (g : List Given) → AllZip R ds g → AllZip R (picked s ds) (picked s g)
zip_picked R s [] [] all = tt
zip_picked R s [] (x ∷ g) all = absurd all
zip_picked R s (d ∷ ds) [] all = absurd all
zip_picked R s (d ∷ ds) (x ∷ g) all = go (s 0) (zip_picked R (λ k. s (suc k)) ds g all.1)
  where
    go : (b : Bool) → AllZip R (picked (λ k. s (suc k)) ds) (picked (λ k. s (suc k)) g)
        → AllZip R (if b then d ∷ picked (λ k. s (suc k)) ds else picked (λ k. s (suc k)) ds) (if b then x ∷ picked (λ k. s (suc k)) g else picked (λ k. s (suc k)) g)
    go true ih = (all.0, ih)
    go false ih = ih

-- Numbers in rising order.
use Rattle.std.proofs.Common.{◌≡◌, ℕ, ◌<◌, List, [], ◌∷◌, Bool, true, false, eqb, ◌||◌, Ordering, Less, Equal, Greater, nat_cmp, inl, inr, refl, sym, subst, arith, eqb-true, eq-eqb}
use Rattle.std.specs.Ordering.{MatchOrdering, match_ordering}
use Rattle.std.specs.BTreeSet.{insert_key}
use Rattle.std.proofs.lemmas.Cmp.{ranked}
use Rattle.std.specs.List.{AllByRecursion, IsDistinct}
use Rattle.std.proofs.lemmas.Bool.Decides.{nat_tests}
use Rattle.sd_outside.specs.Lists.{In}
use Rattle.sd_outside.proofs.Lists.{list_any-In, list_any-from}
use Rattle.marked_tree.specs.Numbers.{has, AllAbove, IsRising}

swapped : (a b c : Bool) → (a || (b || c)) ≡ (b || (a || c))
swapped true true c = refl
swapped true false c = refl
swapped false b c = refl

pub twice : (a b : Bool) → (a || b) ≡ (a || (a || b))
twice true b = refl
twice false b = refl

pub has-inserted : (ns : List ℕ) (n i : ℕ) → has (insert_key nat_cmp ns n) i ≡ (eqb i n || has ns i)
has-inserted [] n i = refl
has-inserted (m ∷ ns) n i = go (nat_cmp n m) (ranked n m (nat_cmp n m) refl) (has-inserted ns n i)
  where
    go : (o : Ordering) → MatchOrdering o (n < m) (n ≡ m) (m < n) → has (insert_key nat_cmp ns n) i ≡ (eqb i n || has ns i)
        → has (match_ordering o (n ∷ m ∷ ns) (m ∷ ns) (m ∷ insert_key nat_cmp ns n)) i ≡ (eqb i n || (eqb i m || has ns i))
    go Less r ih = refl
    go Equal r ih = subst (λ k. (eqb i m || has ns i) ≡ (eqb i k || (eqb i m || has ns i))) (sym r) (twice (eqb i m) (has ns i))
    go Greater r ih = rw ih (swapped (eqb i m) (eqb i n) (has ns i))

-- ---- rising numbers

pub above_in : (n : ℕ) (ns : List ℕ) → AllAbove n ns → (m : ℕ) → In m ns → n < m
above_in n (k ∷ ns) all m (inl e) = omega (arith, all.0, e)
above_in n (k ∷ ns) all m (inr there) = above_in n ns all.1 m there
above_in n [] all m there = elim there [ ]

pub rising_distinct : (ns : List ℕ) → IsRising ns → IsDistinct eqb ns
unfolding IsDistinct
rising_distinct [] r = tt
rising_distinct (n ∷ ns) r = (differ_all n ns r.0, rising_distinct ns r.1)
  where
    differ : (n m : ℕ) → n < m → eqb n m ≡ false
    differ n m l = grind (arith, nat_tests)

    differ_all : (n : ℕ) (ns : List ℕ) → AllAbove n ns → AllByRecursion (λ m. eqb n m ≡ false) ns
    differ_all n [] all = tt
    differ_all n (m ∷ ns) all = (differ n m all.0, differ_all n ns all.1)

pub has-In : (ns : List ℕ) (i : ℕ) → has ns i ≡ true → In i ns
has-In ns i h = let w = list_any-In (eqb i) ns h in subst (λ n. In n ns) (sym (eqb-true i w.0 w.2)) w.1

pub In-has : (ns : List ℕ) (i : ℕ) → In i ns → has ns i ≡ true
In-has ns i there = list_any-from (eqb i) ns i there (eq-eqb i i refl)

-- The met list by numbers.
use Rattle.std.proofs.Common.{◌≡◌, ℕ, zero, suc, ◌+◌, ◌<◌, ◌≤◌, List, [], ◌∷◌, ◌++◌, length, get_or, set, drop, Bool, true, false, cond, ⊎_elim, refl, sym, ap, ap₂, ◌∙◌, subst, arith, length-set, append_assoc}
use Rattle.sd_outside.specs.Lists.{StandsAt, IsLeast, Repeats}
use Rattle.claim_tree.proofs.Counting.{before_or_at}
use Rattle.sd_outside.proofs.Lists.{At-same, At-below}
use Rattle.rebuild_core.specs.Graph.{flagged_rows}
use Rattle.rebuild_core.proofs.Worklist.{set_from, set_keeps, set_here, same_default, not_both, in_range}

-- row j is taken where it is flagged
flagged_step : (fs : List Bool) (rows : List (List ℕ)) (j : ℕ) (d : List ℕ) (b : Bool) → length fs ≡ length rows → j < length fs
    → flagged_rows (drop j fs) (drop j rows) ≡ cond (get_or fs j b) (get_or rows j d) [] ++ flagged_rows (drop (j + 1) fs) (drop (j + 1) rows)
flagged_step (f ∷ fs) (r ∷ rows) zero d b e l = refl
flagged_step (f ∷ fs) (r ∷ rows) (suc j) d b e l =
    let n : suc j + 1 ≡ suc (j + 1) = omega arith in
    rw n (flagged_step fs rows j d b (omega (arith, e)) (omega (arith, l)))
flagged_step [] rows j d b e l = absurd (omega arith)
flagged_step (f ∷ fs) [] j d b e l = absurd (omega (arith, e))

pub taken_step : (fs : List Bool) (rows : List (List ℕ)) (j : ℕ) (row out all : List ℕ) (b : Bool) → length fs ≡ length rows → j < length fs → row ≡ get_or rows j [] → get_or fs j b ≡ true
    → out ++ flagged_rows (drop j fs) (drop j rows) ≡ all → (out ++ row) ++ flagged_rows (drop (j + 1) fs) (drop (j + 1) rows) ≡ all
taken_step fs rows j row out all b e l is set h =
    let rest = flagged_rows (drop (j + 1) fs) (drop (j + 1) rows) in
    let left : flagged_rows (drop j fs) (drop j rows) ≡ row ++ rest = flagged_step fs rows j [] b e l ∙ ap₂ (λ f (r : List ℕ). cond f r [] ++ rest) set (sym is) in
    append_assoc out row rest ∙ (ap (λ (z : List ℕ). out ++ z) (sym left) ∙ h)

pub passed_step : (fs : List Bool) (rows : List (List ℕ)) (j : ℕ) (out all : List ℕ) (b : Bool) → length fs ≡ length rows → j < length fs → get_or fs j b ≡ false
    → out ++ flagged_rows (drop j fs) (drop j rows) ≡ all → out ++ flagged_rows (drop (j + 1) fs) (drop (j + 1) rows) ≡ all
passed_step fs rows j out all b e l clear h =
    let rest = flagged_rows (drop (j + 1) fs) (drop (j + 1) rows) in
    let left : flagged_rows (drop j fs) (drop j rows) ≡ rest = flagged_step fs rows j [] b e l ∙ ap (λ f. cond f (get_or rows j []) [] ++ rest) clear in
    ap (λ (z : List ℕ). out ++ z) (sym left) ∙ h

-- the first q numbers are the flagged ones, and none of them repeats
pub record IsSeen (xs : List ℕ) (n q : ℕ) (seen : List Bool) : Type 0 where
  pub len : length seen ≡ n
  pub from : (k : ℕ) → get_or seen k false ≡ true → (j : ℕ) × (j < q) × StandsAt xs j k
  pub whole : (j k : ℕ) → j < q → StandsAt xs j k → get_or seen k false ≡ true
  pub none : (r : ℕ) → r < q → Repeats xs r → ⊥

pub seen_step : (xs : List ℕ) (n q k : ℕ) (seen : List Bool) → IsSeen xs n q seen → StandsAt xs q k → get_or seen k true ≡ false → IsSeen xs n (q + 1) (set seen k true)
seen_step xs n q k seen s a e = record {
  len = length-set seen k true ∙ s.len;
  from = λ i h. ⊎_elim (λ l. let w = s.from i l in (w.0, omega (arith, w.1), w.2)) (λ r. (q, omega arith, subst (λ z. StandsAt xs q z) (sym r) a)) (set_from seen k i h);
  whole = λ j i l b. ⊎_elim (λ m. set_keeps seen k i (s.whole j i m b)) (λ m. let same : i ≡ k = At-same xs q i k (subst (λ z. StandsAt xs z i) m b) a in rw same (set_here seen k (in_range seen k e))) (before_or_at j q l);
  none = λ r l b. ⊎_elim (λ m. s.none r m b) (λ m. fresh (subst (λ z. Repeats xs z) m b)) (before_or_at r q l);
}
  where
    fresh : Repeats xs q → ⊥
    fresh r =
        let same : r.0 ≡ k = At-same xs q r.0 k r.1 a in
        not_both seen k e (s.whole r.2 k r.3 (subst (λ z. StandsAt xs r.2 z) same r.4))

pub seen_found : (xs : List ℕ) (n q k : ℕ) (seen : List Bool) → IsSeen xs n q seen → StandsAt xs q k → k < n → get_or seen k true ≡ true → IsLeast (Repeats xs) q
seen_found xs n q k seen s a l e =
    let w = s.from k (same_default seen k (omega (arith, l, s.len)) e) in
    record { fails = (k, a, w.0, w.1, w.2); first = s.none }

pub seen_end : (xs : List ℕ) (n q : ℕ) (seen : List Bool) → IsSeen xs n q seen → length xs ≤ q → (r : ℕ) → Repeats xs r → ⊥
seen_end xs n q seen s l r b = s.none r (omega (arith, l, At-below xs r b.0 b.1)) b

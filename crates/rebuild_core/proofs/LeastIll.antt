-- The least disclosure that is ill placed, found in one pass.
use Rattle.std.proofs.Common.{◌≡◌, ℕ, zero, suc, ◌+◌, ◌<◌, ◌≤◌, List, [], ◌∷◌, map, length, get_or, ⊎_elim, refl, subst, arith}
use Rattle.sd_outside.specs.Lists.{StandsAt, AtNone, IsLeast}
use Rattle.claim_tree.proofs.Counting.{before_or_at, not_below}
use Rattle.sd_outside.proofs.Lists.{At-same, At-below, At-map}
use Rattle.digest_sites.specs.Given.{Given}
use Rattle.rebuild_core.specs.Rows.{SeenRow, seen}
use Rattle.rebuild_core.specs.RowNames.{StandsAtRow}
use Rattle.rebuild_core.specs.declared.rows.Row.{Row}

-- what an index reads stands there
At-read : {X : Type 0} (xs : List X) (i : ℕ) (x other : X) → i < length xs → x ≡ get_or xs i other → StandsAt xs i x
At-read (y ∷ xs) zero x other l e = e
At-read (y ∷ xs) (suc i) x other l e = At-read xs i x other (omega arith) e
At-read [] i x other l e = absurd (omega arith)

-- the number and the row at a place of both lists
pub number_at : {X : Type 0} (rows : List X) (numbers : List ℕ) (place : ℕ) → length numbers ≡ length rows → place < length rows → StandsAt numbers place (get_or numbers place 0)
number_at rows numbers place same l = At-read numbers place (get_or numbers place 0) 0 (omega (arith, same, l)) refl

pub seen_at : (rows : List Row) (place : ℕ) (row other : Row) → place < length rows → row ≡ get_or rows place other → StandsAt (map seen rows) place (seen row)
seen_at rows place row other l e = At-map seen rows place row (At-read rows place row other l e)

-- least is the least ill placed disclosure in the first q rows, or how many there are
pub record IsLow (IsIll : SeenRow → Given → Type 0) (rows : List SeenRow) (numbers : List ℕ) (g : List Given) (q least : ℕ) : Type 0 where
  pub within : least ≤ length g
  pub holds : least < length g → StandsAtRow IsIll rows numbers g least
  pub none : (r i : ℕ) (m : SeenRow) (x : Given) → r < q → StandsAt numbers r i → StandsAt rows r m → StandsAt g i x → IsIll m x → least ≤ i

pub low_take : (IsIll : SeenRow → Given → Type 0) (rows : List SeenRow) (numbers : List ℕ) (g : List Given) (q k least : ℕ) (m : SeenRow) (x : Given)
    → IsLow IsIll rows numbers g q least → StandsAt numbers q k → StandsAt rows q m → StandsAt g k x → k < least → IsIll m x → IsLow IsIll rows numbers g (q + 1) k
low_take IsIll rows numbers g q k least m x s a b c l h = record {
  within = omega (arith, l, s.within);
  holds = λ _. (q, a, m, b, x, c, h);
  none = λ r i n y lt d e f z. ⊎_elim (λ o. omega (arith, s.none r i n y o d e f z, l)) (λ o. let w : i ≡ k = At-same numbers q i k (subst (λ v. StandsAt numbers v i) o d) a in omega (arith, w)) (before_or_at r q lt);
}

pub low_pass : (IsIll : SeenRow → Given → Type 0) (rows : List SeenRow) (numbers : List ℕ) (g : List Given) (q k least : ℕ) (m : SeenRow)
    → IsLow IsIll rows numbers g q least → StandsAt numbers q k → StandsAt rows q m → ((x : Given) → StandsAt g k x → k < least → IsIll m x → ⊥) → IsLow IsIll rows numbers g (q + 1) least
low_pass IsIll rows numbers g q k least m s a b h = record {
  within = s.within;
  holds = s.holds;
  none = λ r i n y lt d e f z. ⊎_elim (λ o. s.none r i n y o d e f z) (λ o. here i n y (subst (λ v. StandsAt numbers v i) o d) (subst (λ v. StandsAt rows v n) o e) f z) (before_or_at r q lt);
}
  where
    here : (i : ℕ) (n : SeenRow) (y : Given) → StandsAt numbers q i → StandsAt rows q n → StandsAt g i y → IsIll n y → least ≤ i
    here i n y d e f z =
        let w : i ≡ k = At-same numbers q i k d a in
        let v : n ≡ m = At-same rows q n m e b in
        not_below least i (λ l. h y (subst (λ u. StandsAt g u y) w f) (omega (arith, w, l)) (subst (λ u. IsIll u y) v z))

pub low_found : (IsIll : SeenRow → Given → Type 0) (rows : List SeenRow) (numbers : List ℕ) (g : List Given) (q least : ℕ) → IsLow IsIll rows numbers g q least → length numbers ≤ q → least < length g → IsLeast (StandsAtRow IsIll rows numbers g) least
low_found IsIll rows numbers g q least s l lt = record {
  fails = s.holds lt;
  first = λ r below b. omega (arith, below, s.none b.0 r b.2 b.4 (omega (arith, l, At-below numbers b.0 r b.1)) b.1 b.3 b.5 b.6);
}

pub low_none : (IsIll : SeenRow → Given → Type 0) (rows : List SeenRow) (numbers : List ℕ) (g : List Given) (q least : ℕ) → IsLow IsIll rows numbers g q least → length numbers ≤ q → length g ≤ least → AtNone (StandsAtRow IsIll rows numbers g)
low_none IsIll rows numbers g q least s l lt i b =
    omega (arith, lt, At-below g i b.4 b.5, s.none b.0 i b.2 b.4 (omega (arith, l, At-below numbers b.0 i b.1)) b.1 b.3 b.5 b.6)

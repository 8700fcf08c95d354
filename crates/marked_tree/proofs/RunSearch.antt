-- Where the paths with a step stand, by the paths at the edges of their run.
use Rattle.std.proofs.Common.{◌≡◌, ◌≢◌, ℕ, zero, suc, ◌-◌, ◌<◌, ◌≤◌, List, [], ◌∷◌, length, take, drop, get_or, Bool, true, false, Ordering, Less, Equal, Greater, refl, arith}
use Rattle.std.specs.Prelude.{◌==◌}
use Rattle.std.specs.List.Sorted.{IsPartitionedBy, IsPartitionPoint}
use Rattle.std.specs.Ordering.{ordering_index}
use Rattle.std.proofs.lemmas.Bool.{false_from_ne_true}
use Rattle.claim_tree.specs.Tree.{Text}
use Rattle.marked_tree.specs.Paths.{Path}
use Rattle.marked_tree.specs.Rests.{rests, step_order, AreSorted, Every, Compares, Follows, IsStart}
use Rattle.marked_tree.proofs.Names.{behind_last}
use Rattle.marked_tree.proofs.PathOrder.{is_less, is_tied, index_greater, tied_is, parted_tied, every_taken, every_dropped}

-- where the path before a place passes a test and the one at it does not
pub edge_point : (p : Path → Bool) (xs : List Path) (c : ℕ) → IsPartitionedBy p xs → c ≤ length xs → ((d : Path) → 0 < c → p (get_or xs (c - 1) d) ≡ true) → ((d : Path) → c < length xs → p (get_or xs c d) ≡ false)
    → IsPartitionPoint (λ y. p y ≡ true) (λ y. p y ≡ false) xs c
edge_point p xs c parted within low high = (
  λ k d l h. parted k (c - 1) d (omega (arith, h)) (omega (arith, h, within)) (low d (omega (arith, h))),
  λ k d l h. false_from_ne_true (p (get_or xs k d)) (λ e. let holds = parted c k d l h e in let not = high d (omega (arith, l, h)) in cc),
)

pub not_less : (o : Ordering) → o ≢ Less → (ordering_index o == 0) ≡ false
not_less Less n = absurd (n refl)
not_less Equal n = refl
not_less Greater n = refl

pub less_not : (o : Ordering) → (ordering_index o == 0) ≡ false → o ≢ Less
less_not Less e f = cc
less_not Equal e f = cc
less_not Greater e f = cc

index_tied : (o : Ordering) → o ≡ Equal → (ordering_index o == 1) ≡ true
index_tied Less e = cc
index_tied Equal e = refl
index_tied Greater e = cc

not_tied : (o : Ordering) → o ≢ Equal → (ordering_index o == 1) ≡ false
not_tied Less n = refl
not_tied Equal n = absurd (n refl)
not_tied Greater n = refl

every_at : (P : Path → Type 0) (xs : List Path) (k : ℕ) (d : Path) → Every P xs → k < length xs → P (get_or xs k d)
every_at P [] k d all l = absurd (omega arith)
every_at P (x ∷ xs) zero d all l = all.0
every_at P (x ∷ xs) (suc k) d all l = every_at P xs k d all.1 (omega (arith, l))

module _ (depth : ℕ) (step : Text) where
  pub start_is : (xs : List Path) (start : ℕ) → start ≤ length xs → IsPartitionPoint (λ y. is_less depth step y ≡ true) (λ y. is_less depth step y ≡ false) xs start → IsStart depth step xs start
  start_is xs start within point = record {
    within = within;
    before = every_taken (Compares Less depth step) start xs (λ k d l h. behind_last (step_order (drop depth (get_or xs k d)) step) (point.0 k d (omega arith) l));
    behind = every_dropped (Follows depth step) start xs (λ k d l h. less_not (step_order (drop depth (get_or xs k d)) step) (point.1 k d l h));
  }

  none_lower : (xs : List Path) → Every (Follows depth step) xs → (k : ℕ) (d : Path) → k < length xs → is_less depth step (get_or xs k d) ≡ false
  none_lower xs all k d l = not_less (step_order (drop depth (get_or xs k d)) step) (every_at (Follows depth step) xs k d all l)

  pub parted_same : (xs : List Path) → AreSorted (rests depth xs) → Every (Follows depth step) xs → IsPartitionedBy (is_tied depth step) xs
  parted_same xs s all = parted_tied depth step xs s (none_lower xs all)

  -- those with the step stand in front of the others
  pub same_parted : (xs : List Path) (count : ℕ) → Every (Follows depth step) xs → IsPartitionPoint (λ y. is_tied depth step y ≡ true) (λ y. is_tied depth step y ≡ false) xs count
      → Every (Compares Equal depth step) (take count xs) × Every (Compares Greater depth step) (drop count xs)
  same_parted xs count all point = (
    every_taken (Compares Equal depth step) count xs (λ k d l h. tied_is (step_order (drop depth (get_or xs k d)) step) (point.0 k d (omega arith) l)),
    every_dropped (Compares Greater depth step) count xs (λ k d l h. index_greater (step_order (drop depth (get_or xs k d)) step) (none_lower xs all k d h) (point.1 k d l h)),
  )

  -- the same by the paths at the edge
  pub edge_parted : (xs : List Path) (count : ℕ) → AreSorted (rests depth xs) → Every (Follows depth step) xs → count ≤ length xs
      → ((d : Path) → 0 < count → step_order (drop depth (get_or xs (count - 1) d)) step ≡ Equal) → ((d : Path) → count < length xs → step_order (drop depth (get_or xs count d)) step ≢ Equal)
      → Every (Compares Equal depth step) (take count xs) × Every (Compares Greater depth step) (drop count xs)
  edge_parted xs count sorted all within last next =
      same_parted xs count all
      (edge_point (is_tied depth step) xs count (parted_same xs sorted all) within (λ d l. index_tied (step_order (drop depth (get_or xs (count - 1) d)) step) (last d l)) (λ d l. not_tied (step_order (drop depth (get_or xs count d)) step) (next d l)))

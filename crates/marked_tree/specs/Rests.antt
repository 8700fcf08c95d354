-- Not needed to believe the program's promises: sorted paths, seen from a
-- depth. What counts steps is for private functions.
use Rattle.std.specs.Prelude.{◌≡◌, ◌≢◌, ℕ, ◌+◌, ◌≤◌, List, [], ◌∷◌, length, map, take, drop, bytes_eq, if◌then◌else◌}
use Rattle.std.specs.Ordering.{nat_cmp, ordering_then}
use Rattle.std.specs.Cmp.Lexicographic.{slice_cmp}
use Rattle.std.specs.declared.cmp.Ordering.{Ordering}
use Rattle.std.specs.declared.cmp.Ordering.TheVariants.{Less, Equal, Greater}
use Rattle.claim_tree.specs.Tree.{Text}
use Rattle.marked_tree.specs.Paths.{Path}

-- what is left of each path behind its first steps
abbrev pub rests : ℕ → List Path → List Path
rests depth paths = map (drop depth) paths

-- the shorter step first, and those of one length by their bytes
abbrev pub step_cmp : Text → Text → Ordering
step_cmp k l = ordering_then (nat_cmp (length k) (length l)) (slice_cmp nat_cmp k l)

-- how the first step of a path compares: where there is none, it comes before
abbrev pub step_order : Path → Text → Ordering
step_order [] step = Less
step_order (k ∷ p) step = step_cmp k step

-- by their steps
abbrev pub path_order : Path → Path → Ordering
path_order p q = slice_cmp step_cmp p q

-- x comes after none of the others
abbrev pub AfterNone : {A : Type 0} → (A → A → Ordering) → A → List A → Type 0
AfterNone order x [] = Unit {0}
AfterNone order x (y ∷ ys) = (order x y ≢ Greater) × AfterNone order x ys

-- none comes after one that stands behind it
abbrev pub InOrder : {A : Type 0} → (A → A → Ordering) → List A → Type 0
InOrder order [] = Unit {0}
InOrder order (x ∷ xs) = AfterNone order x xs × InOrder order xs

abbrev pub AreSorted : List Path → Type 0
AreSorted ps = InOrder path_order ps

abbrev pub Every : (Path → Type 0) → List Path → Type 0
Every P [] = Unit {0}
Every P (p ∷ ps) = P p × Every P ps

-- how the step of a path at the depth compares with this one
abbrev pub Compares : Ordering → ℕ → Text → Path → Type 0
Compares o depth step p = step_order (drop depth p) step ≡ o

-- the step of a path at the depth does not come before this one
abbrev pub Follows : ℕ → Text → Path → Type 0
Follows depth step p = step_order (drop depth p) step ≢ Less

-- so many paths come before the step at the depth, and the others do not
pub record IsStart (depth : ℕ) (step : Text) (paths : List Path) (start : ℕ) : Type 0 where
  pub within : start ≤ length paths
  pub before : Every (Compares Less depth step) (take start paths)
  pub behind : Every (Follows depth step) (drop start paths)

-- the paths with this step at the depth: so many, from the position `start` on
pub record IsRunOfPaths (depth : ℕ) (step : Text) (paths : List Path) (start count : ℕ)
    : Type 0 where
  pub within : start + count ≤ length paths
  pub before : Every (Compares Less depth step) (take start paths)
  pub run : Every (Compares Equal depth step) (take count (drop start paths))
  pub behind : Every (Compares Greater depth step) (drop count (drop start paths))

abbrev pub one_head : Text → Path → ℕ
one_head step [] = 0
one_head step (k ∷ p) = if bytes_eq k step then 1 else 0

-- how many paths begin with the step
abbrev pub headed : Text → List Path → ℕ
headed step [] = 0
headed step (p ∷ ps) = one_head step p + headed step ps

abbrev pub has_step : Path → ℕ
has_step [] = 0
has_step (k ∷ p) = 1

-- how many paths have a step
abbrev pub inner : List Path → ℕ
inner [] = 0
inner (p ∷ ps) = has_step p + inner ps

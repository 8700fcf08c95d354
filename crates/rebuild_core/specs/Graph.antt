-- For private functions: which disclosures are reached, and the met list, over numbers.
use Rattle.std.specs.Prelude.{◌≡◌, ℕ, zero, suc, ◌+◌, ◌-◌, ◌<◌, ◌≤◌, List, [], ◌∷◌, ◌++◌, take, drop, length, Bool, true, false, ◌||◌, ◌&&◌, slice_set, slice_index_or, if◌then◌else◌}
use Rattle.marked_tree.specs.Numbers.{has}

-- a list of numbers cut at these positions, the first piece from a start
abbrev pub pieces_at : ℕ → List ℕ → List ℕ → List (List ℕ)
pieces_at start [] ks = []
pieces_at start (end ∷ ends) ks = take (end - start) (drop start ks) ∷ pieces_at end ends ks

-- the positions ascend, up to a length
abbrev pub Ascends : ℕ → List ℕ → ℕ → Type 0
Ascends start [] len = start ≤ len
Ascends start (end ∷ ends) len = (start ≤ end) × Ascends end ends len

-- the first piece: the numbers of the payload
abbrev pub roots_in : List ℕ → List ℕ → List ℕ
roots_in [] ks = []
roots_in (end ∷ ends) ks = take (end - 0) (drop 0 ks)

-- the other pieces: the numbers of each value
abbrev pub rows_in : List ℕ → List ℕ → List (List ℕ)
rows_in [] ks = []
rows_in (end ∷ ends) ks = pieces_at end ends ks

-- some row has k, of those whose number passes, where the first is row i
abbrev pub any_row : (ℕ → Bool) → ℕ → ℕ → List (List ℕ) → Bool
any_row passes k i [] = false
any_row passes k i (row ∷ rows) = (passes i && has row k) || any_row passes k (suc i) rows

-- k stands in the roots, or in the row of a number of the round before
abbrev pub is_met_in : List ℕ → List (List ℕ) → ℕ → ℕ → Bool
is_met_in roots rows zero k = has roots k
is_met_in roots rows (suc round) k =
    is_met_in roots rows round k || any_row (is_met_in roots rows round) k 0 rows

-- which numbers are marked, and in which order
abbrev pub Marks : Type 0
Marks = List Bool × List ℕ

-- a number that is marked or too large changes nothing
abbrev pub mark_one : ℕ → Marks → Marks
mark_one k s = if slice_index_or s.0 k true then s else (slice_set s.0 k true, s.1 ++ k ∷ [])

abbrev pub mark_all : List ℕ → Marks → Marks
mark_all [] s = s
mark_all (k ∷ ks) s = mark_all ks (mark_one k s)

-- the rows that are flagged
abbrev pub flagged_rows : List Bool → List (List ℕ) → List ℕ
flagged_rows [] rows = []
flagged_rows (f ∷ flags) [] = []
flagged_rows (f ∷ flags) (row ∷ rows) = (if f then row else []) ++ flagged_rows flags rows

-- how many are set
abbrev pub trues : List Bool → ℕ
trues [] = 0
trues (f ∷ flags) = (if f then 1 else 0) + trues flags

-- the flag at a position is there and not set
abbrev pub IsClear : List Bool → ℕ → Type 0
IsClear flags i = (i < length flags) × (slice_index_or flags i false ≡ false)

-- Not needed to believe the program's promises: ways to nodes, and counts of marks.
use Rattle.std.specs.Prelude.{ℕ, zero, suc, ◌+◌, List, [], ◌∷◌, ◌++◌, map, eqb, Bool, if◌then◌else◌, Option, Some, None, decimal}
use Rattle.marked_tree.specs.Marked.{Marked, MarkedElements, MarkedMembers, marked_array, marked_element, marked_leaf, marked_member, marked_object, no_marked_elements, no_marked_members, remark}
use Rattle.claim_tree.specs.Tree.{Text, Tree, leaf, array, object, Elements, no_elements, element, Members, no_members, member}
use Rattle.marked_tree.specs.Paths.{Path, below}

-- how many numbers below i are in s
abbrev pub count_below : (ℕ → Bool) → ℕ → ℕ
count_below s zero = 0
count_below s (suc i) = (if s i then 1 else 0) + count_below s i

-- each mark replaced by the number of smaller members of s
abbrev pub ranked : Marked → (ℕ → Bool) → Marked
ranked m s = remark (λ i. Some (count_below s i)) m

-- the marks of the nodes, each with the marks above it, the outermost first
abbrev pub way_of : Option ℕ → List (ℕ × List ℕ) → List (ℕ × List ℕ)
way_of None ws = ws
way_of (Some i) ws = (i, []) ∷ map (λ w. (w.0, i ∷ w.1)) ws

abbrev mutual
  pub ways : Marked → List (ℕ × List ℕ)
  ways (marked_leaf l) = []
  ways (marked_array es) = elements_ways es
  ways (marked_object ms) = members_ways ms

  pub elements_ways : MarkedElements → List (ℕ × List ℕ)
  elements_ways no_marked_elements = []
  elements_ways (marked_element i t es) = way_of i (ways t) ++ elements_ways es

  pub members_ways : MarkedMembers → List (ℕ × List ℕ)
  members_ways no_marked_members = []
  members_ways (marked_member name i t ms) = way_of i (ways t) ++ members_ways ms

abbrev pub mark_weight : (ℕ → ℕ) → Option ℕ → ℕ
mark_weight w None = 0
mark_weight w (Some i) = w i

-- the sum of w over the marks of the nodes
abbrev mutual
  pub weight : (ℕ → ℕ) → Marked → ℕ
  weight w (marked_leaf l) = 0
  weight w (marked_array es) = elements_weight w es
  weight w (marked_object ms) = members_weight w ms

  pub elements_weight : (ℕ → ℕ) → MarkedElements → ℕ
  elements_weight w no_marked_elements = 0
  elements_weight w (marked_element i t es) = (mark_weight w i + weight w t) + elements_weight w es

  pub members_weight : (ℕ → ℕ) → MarkedMembers → ℕ
  members_weight w no_marked_members = 0
  members_weight w (marked_member name i t ms) =
      (mark_weight w i + weight w t) + members_weight w ms

-- 1 at i, 0 elsewhere: weight (only i) counts the nodes with mark i
abbrev pub only : ℕ → ℕ → ℕ
only i j = if eqb i j then 1 else 0

abbrev pub own_path : Bool → Text → List Path
own_path b k = if b then (k ∷ []) ∷ [] else []

-- the hidden places in closing order: each after those inside it
abbrev mutual
  pub closing : (Path → Bool) → Tree → List Path
  closing h (leaf l) = []
  closing h (array es) = closing_elements h 0 es
  closing h (object ms) = closing_members h ms

  pub closing_elements : (Path → Bool) → ℕ → Elements → List Path
  closing_elements h i no_elements = []
  closing_elements h i (element t es) =
      (map (λ p. decimal i ∷ p) (closing (below (decimal i) h) t)
      ++ own_path (h (decimal i ∷ [])) (decimal i)) ++ closing_elements h (suc i) es

  pub closing_members : (Path → Bool) → Members → List Path
  closing_members h no_members = []
  closing_members h (member k t ms) =
      (map (λ p. k ∷ p) (closing (below k h) t) ++ own_path (h (k ∷ [])) k) ++ closing_members h ms

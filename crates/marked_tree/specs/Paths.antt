-- Where marks stand in a marked tree, and the marking of a plain tree.
use Rattle.std.specs.Prelude.{ℕ, suc, ◌+◌, List, [], ◌∷◌, ◌++◌, map, eqb, Bool, ◌&&◌, if◌then◌else◌, Option, Some, None, bytes_eq, decimal}
use Rattle.std.specs.List.{list_any}
use Rattle.std.specs.Cmp.Lexicographic.{pointwise}
use Rattle.claim_tree.specs.Tree.{Text, Tree, leaf, array, object, Elements, no_elements, element, Members, no_members, member}
use Rattle.claim_tree.specs.Path.{is_front}
use Rattle.marked_tree.specs.Marked.{Marked, marked_leaf, marked_array, marked_object, MarkedElements, no_marked_elements, marked_element, MarkedMembers, no_marked_members, marked_member}

-- the steps from the root
abbrev pub Path : Type 0
Path = List Text

-- a node with a mark: its path in the stripped tree, and the marks above it, the outermost first
pub record Spot : Type 0 where
  pub mark : ℕ
  pub at : Path
  pub above : List ℕ

abbrev pub below_mark : Option ℕ → List ℕ → List ℕ
below_mark None is = is
below_mark (Some i) is = i ∷ is

-- the spot, seen from one step above
abbrev pub inside : Text → Option ℕ → Spot → Spot
inside k i s = record { mark = s.mark; at = k ∷ s.at; above = below_mark i s.above }

abbrev pub own_spot : Text → Option ℕ → List Spot
own_spot k None = []
own_spot k (Some i) = record { mark = i; at = k ∷ []; above = [] } ∷ []

-- the marked nodes, each before those inside it
abbrev mutual
  pub spots : Marked → List Spot
  spots (marked_leaf l) = []
  spots (marked_array es) = elements_spots 0 es
  spots (marked_object ms) = members_spots ms

  -- the first element has the position n
  pub elements_spots : ℕ → MarkedElements → List Spot
  elements_spots n no_marked_elements = []
  elements_spots n (marked_element i t es) =
      (own_spot (decimal n) i ++ map (inside (decimal n) i) (spots t)) ++ elements_spots (suc n) es

  pub members_spots : MarkedMembers → List Spot
  members_spots no_marked_members = []
  members_spots (marked_member k i t ms) =
      (own_spot k i ++ map (inside k i) (spots t)) ++ members_spots ms

abbrev pub first_with : ℕ → List Spot → Option Path
first_with i [] = None
first_with i (s ∷ ss) = if eqb s.mark i then Some s.at else first_with i ss

-- the path of the first node with mark i
abbrev pub mark_path : Marked → ℕ → Option Path
mark_path m i = first_with i (spots m)

-- ---- marking

-- a test of paths, from one step below
abbrev pub below : Text → (Path → Bool) → Path → Bool
below k h p = h (k ∷ p)

abbrev pub one_if : Bool → ℕ
one_if b = if b then 1 else 0

-- how many places below the root are hidden
abbrev mutual
  pub hidden_in : (Path → Bool) → Tree → ℕ
  hidden_in h (leaf l) = 0
  hidden_in h (array es) = hidden_elements h 0 es
  hidden_in h (object ms) = hidden_members h ms

  pub hidden_elements : (Path → Bool) → ℕ → Elements → ℕ
  hidden_elements h i no_elements = 0
  hidden_elements h i (element t es) =
      (hidden_in (below (decimal i) h) t + one_if (h (decimal i ∷ [])))
      + hidden_elements h (suc i) es

  pub hidden_members : (Path → Bool) → Members → ℕ
  hidden_members h no_members = 0
  hidden_members h (member k t ms) =
      (hidden_in (below k h) t + one_if (h (k ∷ []))) + hidden_members h ms

abbrev pub mark_if : Bool → ℕ → Option ℕ
mark_if b i = if b then Some i else None

-- each hidden node is numbered after all that is inside it, from n
abbrev mutual
  pub mark_from : (Path → Bool) → ℕ → Tree → Marked
  mark_from h n (leaf l) = marked_leaf l
  mark_from h n (array es) = marked_array (mark_elements h n 0 es)
  mark_from h n (object ms) = marked_object (mark_members h n ms)

  pub mark_elements : (Path → Bool) → ℕ → ℕ → Elements → MarkedElements
  mark_elements h n i no_elements = no_marked_elements
  mark_elements h n i (element t es) =
      marked_element (mark_if (h (decimal i ∷ [])) (n + hidden_in (below (decimal i) h) t))
      (mark_from (below (decimal i) h) n t)
      (mark_elements h (n + (hidden_in (below (decimal i) h) t + one_if (h (decimal i ∷ []))))
      (suc i) es)

  pub mark_members : (Path → Bool) → ℕ → Members → MarkedMembers
  mark_members h n no_members = no_marked_members
  mark_members h n (member k t ms) =
      marked_member k (mark_if (h (k ∷ [])) (n + hidden_in (below k h) t))
      (mark_from (below k h) n t)
      (mark_members h (n + (hidden_in (below k h) t + one_if (h (k ∷ [])))) ms)

abbrev pub same_path : Path → Path → Bool
same_path p q = pointwise bytes_eq p q

-- p is a path of the list
abbrev pub is_among : List Path → Path → Bool
is_among ps p = list_any (same_path p) ps

-- the nodes at the hidden paths, numbered in closing order
abbrev pub mark : Tree → List Path → Marked
mark t hide = mark_from (is_among hide) 0 t

-- how many nodes are hidden
abbrev pub hidden_count : Tree → List Path → ℕ
hidden_count t hide = hidden_in (is_among hide) t

-- some node with mark i has a path that leads to a wanted one
abbrev pub chosen : Marked → List Path → ℕ → Bool
chosen m want i = list_any (λ s. eqb s.mark i && list_any (is_front s.at) want) (spots m)

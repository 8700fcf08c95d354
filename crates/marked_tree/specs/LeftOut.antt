-- A tree without some of its places, and which places are left out where some
-- are hidden and some wanted.
use Rattle.std.specs.Prelude.{ℕ, suc, List, [], ◌∷◌, Bool, ◌&&◌, not, if◌then◌else◌, decimal}
use Rattle.std.specs.List.{list_any}
use Rattle.claim_tree.specs.Tree.{Tree, leaf, array, object, Elements, no_elements, element, Members, no_members, member}
use Rattle.claim_tree.specs.Path.{is_front}
use Rattle.marked_tree.specs.Paths.{Path, below, is_among}

-- without the elements and members of which a test says so, by their paths
abbrev mutual
  pub without : (Path → Bool) → Tree → Tree
  without h (leaf l) = leaf l
  without h (array es) = array (elements_without h 0 es)
  without h (object ms) = object (members_without h ms)

  -- the first element has the position i
  pub elements_without : (Path → Bool) → ℕ → Elements → Elements
  elements_without h i no_elements = no_elements
  elements_without h i (element t es) =
      if h (decimal i ∷ []) then elements_without h (suc i) es
      else element (without (below (decimal i) h) t) (elements_without h (suc i) es)

  pub members_without : (Path → Bool) → Members → Members
  members_without h no_members = no_members
  members_without h (member k t ms) =
      if h (k ∷ []) then members_without h ms
      else member k (without (below k h) t) (members_without h ms)

-- the path leads to a wanted one
abbrev pub leads_to : List Path → Path → Bool
leads_to want p = list_any (is_front p) want

-- the hidden places that lead to no wanted one
abbrev pub is_left_out : List Path → List Path → Path → Bool
is_left_out hide want p = is_among hide p && not (leads_to want p)

-- what is shown of a tree with these places hidden where those are wanted
abbrev pub shown : List Path → List Path → Tree → Tree
shown hide want t = without (is_left_out hide want) t

-- Not needed to believe the program's promises: what is kept of a tree that is read in part.
use Rattle.std.specs.Prelude.{◌≡◌, List, bytes_eq, if◌then◌else◌}
use Rattle.std.specs.List.{list_any}
use Rattle.claim_tree.specs.Tree.{Text, Tree, leaf, array, object, Elements, no_elements, element, Members, no_members, member}
use Rattle.claim_tree.specs.JsonText.{Reads}

-- of each object the members with these names, and no others; the one with the
-- last name is kept as it is
abbrev mutual
  pub kept : List Text → Text → Tree → Tree
  kept names whole (leaf l) = leaf l
  kept names whole (array es) = array (kept_elements names whole es)
  kept names whole (object ms) = object (kept_members names whole ms)

  pub kept_elements : List Text → Text → Elements → Elements
  kept_elements names whole no_elements = no_elements
  kept_elements names whole (element t es) =
      element (kept names whole t) (kept_elements names whole es)

  pub kept_members : List Text → Text → Members → Members
  kept_members names whole no_members = no_members
  kept_members names whole (member name t ms) =
      if list_any (λ other. bytes_eq other name) names
      then member name (if bytes_eq whole name then t else kept names whole t)
      (kept_members names whole ms)
      else kept_members names whole ms

-- the tree is what is kept of the one that the text reads to
pub record ReadsKept (names : List Text) (whole : Text) (bytes : Text) (t : Tree) : Type 0 where
  pub all : Tree
  pub reads : Reads bytes all
  pub is : t ≡ kept names whole all

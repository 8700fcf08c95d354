-- The members of a payload whose names SD-JWT reserves, RFC 9901 section 4.2.4,
-- in the order in which they are named.
use Rattle.std.specs.Prelude.{ℕ, suc, List, [], ◌∷◌, ◌++◌, map, Bool, ◌||◌, not, bytes_eq, decimal, if◌then◌else◌}
use Rattle.claim_tree.specs.Tree.{Text, Tree, leaf, array, object, Elements, no_elements, element, Members, no_members, member}
use Rattle.digest_sites.specs.Reserved.{sd_name, dots_name}
use Rattle.marked_tree.specs.Paths.{Path}
use Rattle.rebuild_core.specs.Payload.{alg_name}

abbrev pub is_sd : Text → Bool
is_sd name = bytes_eq name sd_name

-- `_sd`, `...` or `_sd_alg`
abbrev pub is_reserved : Text → Bool
is_reserved name = is_sd name || (bytes_eq name dots_name || bytes_eq name alg_name)

abbrev pub own_reserved_path : Text → List Path
own_reserved_path name = if is_reserved name then (name ∷ []) ∷ [] else []

-- the places of the members with a reserved name: in an object `_sd` goes first, then the other
-- members by the bytes of their names, each before what is inside it
abbrev mutual
  pub reserved_paths : Tree → List Path
  reserved_paths (leaf l) = []
  reserved_paths (array es) = reserved_elements 0 es
  reserved_paths (object ms) =
      reserved_members is_sd ms ++ reserved_members (λ name. not (is_sd name)) ms

  -- the first element has the position i
  pub reserved_elements : ℕ → Elements → List Path
  reserved_elements i no_elements = []
  reserved_elements i (element t es) =
      map (λ p. decimal i ∷ p) (reserved_paths t) ++ reserved_elements (suc i) es

  -- those of the members with such names
  pub reserved_members : (Text → Bool) → Members → List Path
  reserved_members is_such no_members = []
  reserved_members is_such (member name t ms) =
      (if is_such name then own_reserved_path name ++ map (λ p. name ∷ p) (reserved_paths t)
      else []) ++ reserved_members is_such ms

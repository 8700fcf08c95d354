-- Paths into a JSON value, and their pointers, RFC 6901.
use Rattle.std.specs.Prelude.{ℕ, Bool, suc, ◌==◌, List, [], ◌∷◌, ◌++◌, Option, Some, None, option_and_then, bytes_eq, decimal, codes, if◌then◌else◌}
use Rattle.claim_tree.specs.Tree.{Text, Tree, leaf, array, object, Elements, no_elements, element, member_named}
use Rattle.std.specs.List.{flat_map, starts_with}

-- the first path is a front of the second
abbrev pub is_front : List Text → List Text → Bool
is_front front whole = starts_with bytes_eq whole front

-- section 3: `~` is written `~0`, and `/` is written `~1`
abbrev pub escaped_byte : ℕ → List ℕ
escaped_byte byte = if byte == 126 then codes "~0" else if byte == 47 then codes "~1" else byte ∷ []

abbrev pub escaped : Text → List ℕ
escaped step = flat_map escaped_byte step

-- each step behind a `/`
abbrev pub pointer_text : List Text → List ℕ
pointer_text path = flat_map (λ step. codes "/" ++ escaped step) path

-- the element whose position, counted from the given one, has the step as its decimal digits
abbrev pub element_on : Elements → ℕ → Text → Option Tree
element_on no_elements i step = None
element_on (element t es) i step =
    if bytes_eq (decimal i) step then Some t else element_on es (suc i) step

-- the tree one step inside (RFC 6901 section 4)
abbrev pub stepped : Tree → Text → Option Tree
stepped (leaf l) step = None
stepped (array es) step = element_on es 0 step
stepped (object ms) step = member_named ms step

-- the tree at a path
abbrev pub tree_at : Tree → List Text → Option Tree
tree_at t [] = Some t
tree_at t (step ∷ steps) = option_and_then (λ u. tree_at u steps) (stepped t step)

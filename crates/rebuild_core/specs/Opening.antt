-- Opening: each digest that a disclosure has gives way to the value of that
-- disclosure, opened likewise (RFC 9901 section 7.1).
use Rattle.std.specs.Prelude.{ℕ, zero, suc, List, [], ◌∷◌, length, Option, Some, None, bytes_eq, if◌then◌else◌}
use Rattle.claim_tree.specs.Tree.{Text, Tree, leaf, array, object, Elements, no_elements, element, Members, no_members, member}
use Rattle.digest_sites.specs.Reserved.{sd_name, sd_texts, element_digest}
use Rattle.digest_sites.specs.Given.{Given}
use Rattle.marked_tree.specs.Marked.{Marked, marked_leaf, marked_array, marked_object, MarkedElements, no_marked_elements, marked_element, MarkedMembers, no_marked_members, marked_member, put}
use Rattle.rebuild_core.specs.Reached.{find}

-- what a digest shows: nothing, or a disclosure with its number, its name or
-- none, and its opened value
pub data Shown : Type 0 where
  nothing_shown : Shown
  shown : ℕ → Option Text → Marked → Shown

-- in place of an element that stands for a hidden one
abbrev pub show_element : Shown → MarkedElements → MarkedElements
show_element nothing_shown es = es
show_element (shown i None t) es = marked_element (Some i) t es
show_element (shown i (Some name) t) es = es

-- for a text of `_sd`, beside the members that are there
abbrev pub show_member : Shown → MarkedMembers → MarkedMembers
show_member nothing_shown ms = ms
show_member (shown i None t) ms = ms
show_member (shown i (Some name) t) ms = put name (Some i) t ms

abbrev pub show_members : (Text → Shown) → List Text → MarkedMembers → MarkedMembers
show_members reveals [] ms = ms
show_members reveals (digest ∷ digests) ms =
    show_members reveals digests (show_member (reveals digest) ms)

abbrev pub open_element : (Text → Shown) → Option Text → Marked → MarkedElements → MarkedElements
open_element reveals None t es = marked_element None t es
open_element reveals (Some digest) t es = show_element (reveals digest) es

-- a tree opened, where `reveals` tells what each digest shows
abbrev mutual
  pub open_tree : (Text → Shown) → Tree → Marked
  open_tree reveals (leaf l) = marked_leaf l
  open_tree reveals (array es) = marked_array (open_elements reveals es)
  open_tree reveals (object ms) =
      marked_object (show_members reveals (sd_texts ms) (open_members reveals ms))

  pub open_elements : (Text → Shown) → Elements → MarkedElements
  open_elements reveals no_elements = no_marked_elements
  open_elements reveals (element t es) =
      open_element reveals (element_digest t) (open_tree reveals t) (open_elements reveals es)

  -- `_sd` itself is left out
  pub open_members : (Text → Shown) → Members → MarkedMembers
  open_members reveals no_members = no_marked_members
  open_members reveals (member name t ms) =
      if bytes_eq name sd_name then open_members reveals ms
      else marked_member name None (open_tree reveals t) (open_members reveals ms)

abbrev pub shown_by : (Tree → Marked) → Option (ℕ × Given) → Shown
shown_by opens None = nothing_shown
shown_by opens (Some found) = shown found.0 found.1.name (opens found.1.value)

-- what a digest shows, down to disclosures that lie so many deep in each other
abbrev pub reveal : ℕ → List Given → Text → Shown
reveal zero given digest = nothing_shown
reveal (suc fuel) given digest = shown_by (open_tree (reveal fuel given)) (find given digest)

abbrev pub opened : ℕ → List Given → Tree → Marked
opened fuel given t = open_tree (reveal fuel given) t

-- the processed payload, from the payload without its own `_sd_alg`
abbrev pub processed : Tree → List Given → Marked
processed p given = opened (suc (length given)) given p

-- The names that SD-JWT reserves in a JSON value, RFC 9901 section 4.2.4.
use Rattle.std.specs.Prelude.{List, [], ◌∷◌, Bool, false, ◌||◌, ◌&&◌, not, Option, Some, None, is_some, option_map, option_and_then, bytes_eq, codes, if◌then◌else◌, unwrap_or}
use Rattle.claim_tree.specs.Tree.{Text, Tree, leaf, array, object, Elements, no_elements, element, Members, no_members, member, text_of}

-- section 4.2.4.1: the digests of hidden members
unfoldable pub sd_name : Text
sd_name = codes "_sd"

-- section 4.2.4.2: the digest of a hidden element
unfoldable pub dots_name : Text
dots_name = codes "..."

-- the texts of an array that has texts alone
abbrev pub texts_of : Elements → Option (List Text)
texts_of no_elements = Some []
texts_of (element t es) = option_and_then (λ s. option_map (λ ss. s ∷ ss) (texts_of es)) (text_of t)

abbrev pub text_list : Tree → Option (List Text)
text_list (array es) = texts_of es
text_list _ = None

-- the texts of the member `_sd`, none where it is no list of texts
abbrev pub sd_texts : Members → List Text
sd_texts no_members = []
sd_texts (member name t ms) =
    if bytes_eq name sd_name then unwrap_or (text_list t) [] else sd_texts ms

-- the digest of an element that stands for a hidden one: an object whose only
-- member is `...`, a text
abbrev pub element_digest : Tree → Option Text
element_digest (object (member name t no_members)) =
    if bytes_eq name dots_name then text_of t else None
element_digest _ = None

-- a member is `_sd` and no list of texts, or is `...`
abbrev pub is_ill_named : Text → Tree → Bool
is_ill_named name t =
    (bytes_eq name sd_name && not (is_some (text_list t))) || bytes_eq name dots_name

-- a reserved name is used otherwise: by a member of an object that is no element with a digest
abbrev mutual
  pub misuses : Tree → Bool
  misuses (leaf l) = false
  misuses (array es) = elements_misuse es
  misuses (object ms) = members_misuse ms

  pub elements_misuse : Elements → Bool
  elements_misuse no_elements = false
  elements_misuse (element t es) =
      (not (is_some (element_digest t)) && misuses t) || elements_misuse es

  pub members_misuse : Members → Bool
  members_misuse no_members = false
  members_misuse (member name t ms) = is_ill_named name t || misuses t || members_misuse ms

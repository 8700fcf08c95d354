-- JSON values without floats (RFC 8259), as trees.
use Rattle.std.specs.Prelude.{◌≡◌, ℕ, zero, suc, ◌<◌, ◌^◌, max, ℤ, pos, negsuc, List, [], ◌∷◌, Bool, false, Option, Some, None, bytes_eq, if◌then◌else◌}
use Rattle.std.specs.Ordering.{nat_cmp, match_ordering}
use Rattle.std.specs.Cmp.Lexicographic.{slice_cmp}
use Rattle.std.specs.declared.cmp.Ordering.TheVariants.{Less}

-- a text is its bytes
abbrev pub Text : Type 0
Text = List ℕ

pub data Leaf : Type 0 where
  null : Leaf
  flag : Bool → Leaf
  whole : ℤ → Leaf
  text : Text → Leaf

mutual
  pub data Tree : Type 0 where
    leaf : Leaf → Tree
    array : Elements → Tree
    object : Members → Tree

  pub data Elements : Type 0 where
    no_elements : Elements
    element : Tree → Elements → Elements

  pub data Members : Type 0 where
    no_members : Members
    member : Text → Tree → Members → Members

-- 0 of a leaf, 1 of an empty array or object, else 1 more than the greatest inside
abbrev mutual
  pub depth : Tree → ℕ
  depth (leaf l) = 0
  depth (array es) = suc (elements_depth es)
  depth (object ms) = suc (members_depth ms)

  pub elements_depth : Elements → ℕ
  elements_depth no_elements = 0
  elements_depth (element t es) = max (depth t) (elements_depth es)

  pub members_depth : Members → ℕ
  members_depth no_members = 0
  members_depth (member name t ms) = max (depth t) (members_depth ms)

abbrev pub names : Members → List Text
names no_members = []
names (member name t ms) = name ∷ names ms

-- the second name comes after the first, by their bytes
abbrev pub IsBefore : Text → Text → Type 0
IsBefore name other = slice_cmp nat_cmp name other ≡ Less

abbrev pub IsBeforeAll : Text → List Text → Type 0
IsBeforeAll name [] = Unit {0}
IsBeforeAll name (other ∷ others) = IsBefore name other × IsBeforeAll name others

-- the members of each object ascend by the bytes of their names, each name once
abbrev mutual
  pub IsOrdered : Tree → Type 0
  IsOrdered (leaf l) = Unit {0}
  IsOrdered (array es) = ElementsOrdered es
  IsOrdered (object ms) = MembersOrdered ms

  pub ElementsOrdered : Elements → Type 0
  ElementsOrdered no_elements = Unit {0}
  ElementsOrdered (element t es) = IsOrdered t × ElementsOrdered es

  pub MembersOrdered : Members → Type 0
  MembersOrdered no_members = Unit {0}
  MembersOrdered (member name t ms) = IsBeforeAll name (names ms) × IsOrdered t × MembersOrdered ms

-- a whole number of 64 bits, with a sign or without
abbrev pub InRange : ℤ → Type 0
InRange (pos n) = n < 2 ^ 64
InRange (negsuc n) = n < 2 ^ 63

abbrev pub LeafRanged : Leaf → Type 0
LeafRanged (whole z) = InRange z
LeafRanged _ = Unit {0}

-- each number is in range
abbrev mutual
  pub IsRanged : Tree → Type 0
  IsRanged (leaf l) = LeafRanged l
  IsRanged (array es) = ElementsRanged es
  IsRanged (object ms) = MembersRanged ms

  pub ElementsRanged : Elements → Type 0
  ElementsRanged no_elements = Unit {0}
  ElementsRanged (element t es) = IsRanged t × ElementsRanged es

  pub MembersRanged : Members → Type 0
  MembersRanged no_members = Unit {0}
  MembersRanged (member name t ms) = IsRanged t × MembersRanged ms

-- ---- texts

-- the text that a tree is
abbrev pub text_of : Tree → Option Text
text_of (leaf (text s)) = Some s
text_of _ = None

-- there is a text, and it is this one
abbrev pub has_text : Option Text → Text → Bool
has_text None word = false
has_text (Some s) word = bytes_eq s word

-- ---- arrays

abbrev pub elements_len : Elements → ℕ
elements_len no_elements = 0
elements_len (element t es) = suc (elements_len es)

abbrev pub element_at : Elements → ℕ → Option Tree
element_at no_elements i = None
element_at (element t es) zero = Some t
element_at (element t es) (suc i) = element_at es i

-- ---- objects

abbrev pub members_len : Members → ℕ
members_len no_members = 0
members_len (member name t ms) = suc (members_len ms)

-- the members, with this tree under the name
abbrev pub inserted : Members → Text → Tree → Members
inserted no_members name t = member name t no_members
inserted (member other u ms) name t =
    match_ordering (slice_cmp nat_cmp other name) (member other u (inserted ms name t))
    (member name t ms) (member name t (member other u ms))

-- the tree under a name
abbrev pub member_named : Members → Text → Option Tree
member_named no_members name = None
member_named (member other u ms) name = if bytes_eq other name then Some u else member_named ms name

-- the member of an object
abbrev pub get : Tree → Text → Option Tree
get (object ms) name = member_named ms name
get _ name = None

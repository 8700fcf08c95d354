-- What is so of every part of a tree.
use Rattle.std.specs.Str.{IsUtf8}
use Rattle.claim_tree.specs.Tree.{Text, Leaf, text, Tree, leaf, array, object, Elements, no_elements, element, Members, no_members, member}

-- of each leaf, of each list, and of each member with its name, however deep it stands
abbrev mutual
  pub Everywhere : (Leaf → Type 0) → (Elements → Type 0) → (Text → Tree → Type 0) → Tree → Type 0
  Everywhere OfLeaf OfList OfMember (leaf l) = OfLeaf l
  Everywhere OfLeaf OfList OfMember (array es) = OfList es × InElements OfLeaf OfList OfMember es
  Everywhere OfLeaf OfList OfMember (object ms) = InMembers OfLeaf OfList OfMember ms

  pub InElements : (Leaf → Type 0) → (Elements → Type 0) → (Text → Tree → Type 0) → Elements
      → Type 0
  InElements OfLeaf OfList OfMember no_elements = Unit {0}
  InElements OfLeaf OfList OfMember (element t es) =
      Everywhere OfLeaf OfList OfMember t × InElements OfLeaf OfList OfMember es

  pub InMembers : (Leaf → Type 0) → (Elements → Type 0) → (Text → Tree → Type 0) → Members → Type 0
  InMembers OfLeaf OfList OfMember no_members = Unit {0}
  InMembers OfLeaf OfList OfMember (member name t ms) =
      OfMember name t × Everywhere OfLeaf OfList OfMember t × InMembers OfLeaf OfList OfMember ms

-- of each member with its name
abbrev pub EachMember : (Text → Tree → Type 0) → Tree → Type 0
EachMember OfMember t = Everywhere (λ _. Unit {0}) (λ _. Unit {0}) OfMember t

-- a text is UTF-8
abbrev pub LeafIsUtf8 : Leaf → Type 0
LeafIsUtf8 (text s) = IsUtf8 s
LeafIsUtf8 _ = Unit {0}

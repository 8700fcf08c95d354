-- The values that trees say, and the text of the JSON Pointer of a path.
use Rattle.std.specs.Prelude.{◌≡◌, ◌≤◌, ℕ, pos, List, [], ◌∷◌, Option, Some, None}
use Rattle.claim_tree.specs.Tree.{Text, text, whole, Tree, leaf, array, Elements, no_elements, element}
use Rattle.claim_tree.specs.Path.{pointer_text}

-- the tree is this text
abbrev pub IsText : Tree → Text → Type 0
IsText t s = t ≡ leaf (text s)

abbrev pub text_elements : List Text → Elements
text_elements [] = no_elements
text_elements (s ∷ texts) = element (leaf (text s)) (text_elements texts)

-- the tree is the list of these texts
abbrev pub IsTexts : Tree → List Text → Type 0
IsTexts t texts = t ≡ array (text_elements texts)

-- the tree is this whole number, from 0 to the most
pub record IsWholeUpTo (most : ℕ) (t : Tree) (n : ℕ) : Type 0 where
  pub is : t ≡ leaf (whole (pos n))
  pub within : n ≤ most

-- the elements say these values, in their order
abbrev pub EachSays : {X : Type 0} → (Tree → X → Type 0) → Elements → List X → Type 0
EachSays Is no_elements [] = Unit {0}
EachSays Is no_elements (x ∷ xs) = ⊥
EachSays Is (element t es) [] = ⊥
EachSays Is (element t es) (x ∷ xs) = Is t x × EachSays Is es xs

-- the tree is a list whose elements say these values
pub record IsListOf {X : Type 0} (Is : Tree → X → Type 0) (t : Tree) (xs : List X) : Type 0 where
  pub elements : Elements
  pub is : t ≡ array elements
  pub each : EachSays Is elements xs

-- the tree is the text of the JSON Pointer of this path
abbrev pub IsPointer : Tree → List Text → Type 0
IsPointer t path = t ≡ leaf (text (pointer_text path))

-- ---- what is found, or not

-- what is found says this; where nothing is found, it says nothing
abbrev pub Says : {X : Type 0} → (Tree → X → Type 0) → Option Tree → X → Type 0
Says Is None x = ⊥
Says Is (Some t) x = Is t x

-- what is found says some value, and none where nothing is found
abbrev pub MaySay : {X : Type 0} → (Tree → X → Type 0) → Option Tree → Option X → Type 0
MaySay Is None None = Unit {0}
MaySay Is (Some t) (Some x) = Is t x
MaySay Is _ _ = ⊥

-- what is found says this, and the value is the default where nothing is found
abbrev pub SaysOr : {X : Type 0} → (Tree → X → Type 0) → X → Option Tree → X → Type 0
SaysOr Is default None x = x ≡ default
SaysOr Is default (Some t) x = Is t x

-- the tree says some value
abbrev pub HasValue : {X : Type 0} → (Tree → X → Type 0) → Tree → Type 0
HasValue {X} Is t = (x : X) × Is t x

-- What is kept of a tree by the names of its members, and what is found in it.
use Rattle.std.proofs.Common.{◌≡◌, ℕ, zero, suc, Bool, true, false, List, Option, Some, None, option_map, refl, ap, ◌∙◌}
use Rattle.std.specs.Prelude.{bytes_eq, if◌then◌else◌}
use Rattle.std.specs.List.{list_any}
use Rattle.std.specs.Option.{is_some}
use Rattle.claim_tree.specs.Tree.{Text, Leaf, Tree, leaf, array, object, Elements, no_elements, element, element_at, Members, no_members, member, member_named}
use Rattle.claim_tree.specs.Kept.{kept, kept_elements, kept_members}
use Rattle.sd_outside.proofs.Lists.{bytes_same, bytes_refl}

-- ---- what may be there, under a function

-- there is a value, and this is what the function makes of it
pub record SomeOf {X Y : Type 0} (f : X → Y) (o : Option X) (y : Y) : Type 0 where
  pub value : X
  pub is : o ≡ Some value
  pub made : y ≡ f value

pub some_of : {X Y : Type 0} (f : X → Y) (o : Option X) (y : Y) → option_map f o ≡ Some y → SomeOf f o y
some_of f None y e = absurd (cc e)
some_of f (Some x) y e = let both : Some (f x) ≡ Some y = e in record { value = x; is = refl; made = cc both }

pub none_of : {X Y : Type 0} (f : X → Y) (o : Option X) → option_map f o ≡ None → o ≡ None
none_of f None e = refl
none_of f (Some x) e = absurd (cc e)

pub is_some_of : {X Y : Type 0} (f : X → Y) (o : Option X) → is_some (option_map f o) ≡ is_some o
is_some_of f None = refl
is_some_of f (Some x) = refl

-- ---- members and elements

abbrev pub is_kept : List Text → Text → Bool
is_kept names name = list_any (λ other. bytes_eq other name) names

-- what is kept of the member with this name
abbrev pub kept_under : List Text → Text → Text → Tree → Tree
kept_under names whole name t = if bytes_eq whole name then t else kept names whole t

pub named_kept : (names : List Text) (whole : Text) (ms : Members) (name : Text) → is_kept names name ≡ true
    → member_named (kept_members names whole ms) name ≡ option_map (kept_under names whole name) (member_named ms name)
named_kept names whole no_members name known = refl
named_kept names whole (member k t ms) name known = go (bytes_eq k name) refl (named_kept names whole ms name known)
  where
    behind : (b : Bool) → bytes_eq k name ≡ false → member_named (kept_members names whole ms) name ≡ option_map (kept_under names whole name) (member_named ms name)
        → member_named (if b then member k (kept_under names whole k t) (kept_members names whole ms) else kept_members names whole ms) name ≡ option_map (kept_under names whole name) (member_named ms name)
    behind true e ih = rw e ih
    behind false e ih = ih

    go : (b : Bool) → bytes_eq k name ≡ b → member_named (kept_members names whole ms) name ≡ option_map (kept_under names whole name) (member_named ms name)
        → member_named (kept_members names whole (member k t ms)) name ≡ option_map (kept_under names whole name) (if b then Some t else member_named ms name)
    go true e ih =
        let same : k ≡ name = bytes_same k name e in
        let is : is_kept names k ≡ true = ap (is_kept names) same ∙ known in
        rw (is, e) (ap (λ (n : Text). Some (kept_under names whole n t)) same)
    go false e ih = behind (is_kept names k) e ih

pub under_kept : (names : List Text) (whole : Text) (ms : Members) (name : Text) → is_kept names name ≡ true → bytes_eq whole name ≡ false → member_named (kept_members names whole ms) name ≡ option_map (kept names whole) (member_named ms name)
under_kept names whole ms name known apart = named_kept names whole ms name known ∙ go (member_named ms name)
  where
    go : (o : Option Tree) → option_map (kept_under names whole name) o ≡ option_map (kept names whole) o
    go None = refl
    go (Some t) = rw apart refl

pub whole_kept : (names : List Text) (whole : Text) (ms : Members) → is_kept names whole ≡ true → member_named (kept_members names whole ms) whole ≡ member_named ms whole
whole_kept names whole ms known = named_kept names whole ms whole known ∙ go (member_named ms whole)
  where
    go : (o : Option Tree) → option_map (kept_under names whole whole) o ≡ o
    go None = refl
    go (Some t) = rw (bytes_refl whole whole refl) refl

pub element_kept : (names : List Text) (whole : Text) (es : Elements) (i : ℕ) → element_at (kept_elements names whole es) i ≡ option_map (kept names whole) (element_at es i)
element_kept names whole no_elements i = refl
element_kept names whole (element t es) zero = refl
element_kept names whole (element t es) (suc i) = element_kept names whole es i

-- ---- the tree of which something is kept

pub leaf_kept : (names : List Text) (whole : Text) (t : Tree) (l : Leaf) → kept names whole t ≡ leaf l → t ≡ leaf l
leaf_kept names whole (leaf k) l e = e
leaf_kept names whole (array es) l e = absurd (cc e)
leaf_kept names whole (object ms) l e = absurd (cc e)

-- the tree is an array, and these elements are kept of it
pub record KeptArray (names : List Text) (whole : Text) (t : Tree) (es : Elements) : Type 0 where
  pub all : Elements
  pub is : t ≡ array all
  pub made : es ≡ kept_elements names whole all

pub array_kept : (names : List Text) (whole : Text) (t : Tree) (es : Elements) → kept names whole t ≡ array es → KeptArray names whole t es
array_kept names whole (leaf l) es e = absurd (cc e)
array_kept names whole (array all) es e = let both : array (kept_elements names whole all) ≡ array es = e in record { all = all; is = refl; made = cc both }
array_kept names whole (object ms) es e = absurd (cc e)

-- the tree is an object, and these members are kept of it
pub record KeptObject (names : List Text) (whole : Text) (t : Tree) (ms : Members) : Type 0 where
  pub all : Members
  pub is : t ≡ object all
  pub made : ms ≡ kept_members names whole all

pub object_kept : (names : List Text) (whole : Text) (t : Tree) (ms : Members) → kept names whole t ≡ object ms → KeptObject names whole t ms
object_kept names whole (leaf l) ms e = absurd (cc e)
object_kept names whole (array es) ms e = absurd (cc e)
object_kept names whole (object all) ms e = let both : object (kept_members names whole all) ≡ object ms = e in record { all = all; is = refl; made = cc both }

-- the elements begin with a tree, of which this one is kept
pub record KeptFirst (names : List Text) (whole : Text) (es : Elements) (t : Tree) (later : Elements) : Type 0 where
  pub first : Tree
  pub rest : Elements
  pub are : es ≡ element first rest
  pub made : t ≡ kept names whole first
  pub behind : later ≡ kept_elements names whole rest

pub first_kept : (names : List Text) (whole : Text) (es : Elements) (t : Tree) (later : Elements) → kept_elements names whole es ≡ element t later → KeptFirst names whole es t later
first_kept names whole no_elements t later e = absurd (cc e)
first_kept names whole (element u rest) t later e =
    let both : element (kept names whole u) (kept_elements names whole rest) ≡ element t later = e in
    record { first = u; rest = rest; are = refl; made = cc both; behind = cc both }

-- The list of a salt, a name and a value.
use Rattle.std.proofs.Common.{◌≡◌, ◌≤◌, Option, Some, None, refl, sym, ap, arith}
use Rattle.claim_tree.specs.Tree.{Text, text, Tree, leaf, array, Elements, element, no_elements, depth}
use Rattle.claim_tree.specs.ListTails.{short_list}
use Rattle.disclosure.specs.Disclosure.{array_of}

pub array_of-listed : (salt : Text) (name : Option Text) (value : Tree) → array (short_list salt name value) ≡ array_of (leaf (text salt)) name value
array_of-listed salt (Some name) value = refl
array_of-listed salt None value = refl

pub depth-array_of : (salt : Text) (name : Option Text) (value : Tree) → depth value ≤ 126 → depth (array_of (leaf (text salt)) name value) ≤ 127
depth-array_of salt (Some name) value low = omega (arith, low)
depth-array_of salt None value low = omega (arith, low)

array_same : (es fs : Elements) → array es ≡ array fs → es ≡ fs
array_same es fs e = cc

element_same : (t u : Tree) (es fs : Elements) → element t es ≡ element u fs → (t ≡ u) × (es ≡ fs)
element_same t u es fs e = (cc, cc)

name_same : (n m : Text) → leaf (text n) ≡ leaf (text m) → n ≡ m
name_same n m e = cc

two_three : (t u v : Tree) → element t no_elements ≡ element u (element v no_elements) → ⊥
two_three t u v e = let rest = (element_same t u no_elements (element v no_elements) e).1 in cc rest

-- a list has one salt, one name or none, and one value
pub array_of-injective : (salt s : Tree) (name n : Option Text) (value v : Tree) → array_of salt name value ≡ array_of s n v → (salt ≡ s) × (name ≡ n) × (value ≡ v)
array_of-injective salt s (Some name) (Some n) value v e =
    let all = element_same _ _ _ _ (array_same _ _ e) in
    let rest = element_same _ _ _ _ all.1 in
    (all.0, ap (λ m. Some m) (name_same name n rest.0), (element_same _ _ _ _ rest.1).0)
array_of-injective salt s None None value v e =
    let all = element_same _ _ _ _ (array_same _ _ e) in
    (all.0, refl, (element_same _ _ _ _ all.1).0)
array_of-injective salt s (Some name) None value v e = absurd (two_three v (leaf (text name)) value (sym (element_same _ _ _ _ (array_same _ _ e)).1))
array_of-injective salt s None (Some n) value v e = absurd (two_three value (leaf (text n)) v (element_same _ _ _ _ (array_same _ _ e)).1)

-- what holds of the list holds of its value
pub value_shallow : (salt : Tree) (name : Option Text) (value : Tree) → depth (array_of salt name value) ≤ 127 → depth value ≤ 126
value_shallow salt (Some name) value low = omega (arith, low)
value_shallow salt None value low = omega (arith, low)

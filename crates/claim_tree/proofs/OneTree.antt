-- A text reads to at most one tree, and one that is refused to none.
use Rattle.std.proofs.Common.{◌≡◌, ℤ, pos, negsuc, true, false, inl, inr, Some, None, refl, sym, ap, ◌∙◌}
use Rattle.serde_json.specs.Data as port
use Rattle.serde_json.specs.Find.{of_integer}
use Rattle.serde_json.specs.Written.{has_float}
use Rattle.claim_tree.specs.Tree.{Text, Leaf, null, flag, whole, text, Tree, leaf, array, object, Elements, no_elements, element, Members, no_members, member}
use Rattle.claim_tree.specs.JsonText.{Reads, IsNotJson, IsNotWhole, leaf_data, data_of, elements_data, members_data}
use Rattle.claim_tree.proofs.Datas.{no_float}

one_whole : (y z : ℤ) → of_integer y ≡ of_integer z → y ≡ z
one_whole (pos m) (pos n) e = cc e
one_whole (negsuc m) (negsuc n) e = cc e
one_whole (pos m) (negsuc n) e = cc e
one_whole (negsuc m) (pos n) e = cc e

one_leaf : (l m : Leaf) → leaf_data l ≡ leaf_data m → l ≡ m
one_leaf null null e = refl
one_leaf (flag b) (flag c) e = cc e
one_leaf (whole y) (whole z) e = let same : y ≡ z = one_whole y z (cc e) in cc same
one_leaf (text x) (text y) e = cc e
one_leaf l m e = cc e

no_array : (l : Leaf) (items : port.Items) → leaf_data l ≡ port.array items → ⊥
no_array null items e = cc e
no_array (flag b) items e = cc e
no_array (whole z) items e = cc e
no_array (text x) items e = cc e

no_object : (l : Leaf) (ms : port.Members) → leaf_data l ≡ port.object ms → ⊥
no_object null ms e = cc e
no_object (flag b) ms e = cc e
no_object (whole z) ms e = cc e
no_object (text x) ms e = cc e

mutual
  -- trees of one value are equal
  pub data_of-injective : (t u : Tree) → data_of t ≡ data_of u → t ≡ u
  data_of-injective (leaf l) (leaf m) e = ap leaf (one_leaf l m e)
  data_of-injective (leaf l) (array fs) e = absurd (no_array l _ e)
  data_of-injective (leaf l) (object ns) e = absurd (no_object l _ e)
  data_of-injective (array es) (leaf m) e = absurd (no_array m _ (sym e))
  data_of-injective (object ms) (leaf m) e = absurd (no_object m _ (sym e))
  data_of-injective (array es) (array fs) e = ap array (elements_data-injective es fs (cc e))
  data_of-injective (object ms) (object ns) e = ap object (members_data-injective ms ns (cc e))
  data_of-injective (array es) (object ns) e = cc e
  data_of-injective (object ms) (array fs) e = cc e

  elements_data-injective : (es fs : Elements) → elements_data es ≡ elements_data fs → es ≡ fs
  elements_data-injective no_elements no_elements e = refl
  elements_data-injective (element t es) (element u fs) e =
      let first : t ≡ u = data_of-injective t u (cc e) in
      let rest : es ≡ fs = elements_data-injective es fs (cc e) in
      cc (first, rest)
  elements_data-injective es fs e = cc e

  members_data-injective : (ms ns : Members) → members_data ms ≡ members_data ns → ms ≡ ns
  members_data-injective no_members no_members e = refl
  members_data-injective (member name t ms) (member other u ns) e =
      let here : name ≡ other = cc e in
      let first : t ≡ u = data_of-injective t u (cc e) in
      let rest : ms ≡ ns = members_data-injective ms ns (cc e) in
      cc (here, first, rest)
  members_data-injective ms ns e = cc e

pub one_tree : (bytes : Text) (t u : Tree) → Reads bytes t → Reads bytes u → t ≡ u
one_tree bytes t u r s = data_of-injective t u (let both = sym r.value ∙ s.value in cc both)

pub is_json : (bytes : Text) (t : Tree) → Reads bytes t → IsNotJson bytes → ⊥
is_json bytes t reads (inl odd) = odd reads.utf8
is_json bytes t reads (inr none) = let both : Some (data_of t) ≡ None = sym reads.value ∙ none in cc both

pub is_whole : (bytes : Text) (t : Tree) → Reads bytes t → IsNotWhole bytes → ⊥
is_whole bytes t reads odd =
    let both : Some (data_of t) ≡ Some odd.data_is = sym reads.value ∙ odd.value in
    let same : data_of t ≡ odd.data_is = cc both in
    let clash : true ≡ false = sym odd.float ∙ (sym (ap has_float same) ∙ no_float t) in
    cc clash

-- a text that is no JSON has no value
pub one_cause : (bytes : Text) → IsNotJson bytes → IsNotWhole bytes → ⊥
one_cause bytes (inl odd) whole_is = odd whole_is.utf8
one_cause bytes (inr none) whole_is = let both : Some whole_is.data_is ≡ None = sym whole_is.value ∙ none in cc both

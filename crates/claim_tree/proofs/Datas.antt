-- Trees beside the data of `serde_json`.
use Rattle.std.proofs.Common.{◌≡◌, ℤ, pos, negsuc, suc, nat_cmp, Ordering, Less, Equal, Greater, false, refl, ap}
use Rattle.std.specs.Cmp.Lexicographic.{slice_cmp}
use Rattle.std.specs.Ordering.{match_ordering}
use Rattle.serde_json.specs.Data as port
use Rattle.serde_json.specs.Written.{has_float, items_have_float, members_have_float}
use Rattle.serde_json.specs.Find.{is_float, of_integer}
use Rattle.claim_tree.specs.Tree.{Text, null, flag, whole, text, Tree, leaf, array, object, Elements, no_elements, element, Members, no_members, member, depth, elements_depth, members_depth, inserted, IsRanged, ElementsRanged, MembersRanged}
use Rattle.claim_tree.specs.TreeCalls.{pushed}
use Rattle.claim_tree.specs.JsonText.{data_of, elements_data, members_data}

-- ---- arrays

pub ElementsRanged-pushed : (es : Elements) (t : Tree) → ElementsRanged es → IsRanged t → ElementsRanged (pushed es t)
ElementsRanged-pushed no_elements t h r = (r, h)
ElementsRanged-pushed (element u es) t h r = (h.0, ElementsRanged-pushed es t h.1 r)

-- ---- objects

ranged_by : (o : Ordering) (a b c : Members) → MembersRanged a → MembersRanged b → MembersRanged c → MembersRanged (match_ordering o a b c)
ranged_by Less a b c ha hb hc = ha
ranged_by Equal a b c ha hb hc = hb
ranged_by Greater a b c ha hb hc = hc

pub MembersRanged-inserted : (ms : Members) (name : Text) (t : Tree) → MembersRanged ms → IsRanged t → MembersRanged (inserted ms name t)
MembersRanged-inserted no_members name t h r = (r, h)
MembersRanged-inserted (member other u ms) name t h r = ranged_by (slice_cmp nat_cmp other name) _ _ _ (h.0, MembersRanged-inserted ms name t h.1 r) (r, h.1) (r, h)

-- ---- depths and floats

mutual
  pub depth-data : (t : Tree) → port.depth (data_of t) ≡ depth t
  depth-data (leaf null) = refl
  depth-data (leaf (flag b)) = refl
  depth-data (leaf (whole z)) = refl
  depth-data (leaf (text s)) = refl
  depth-data (array es) = ap suc (depth-elements_data es)
  depth-data (object ms) = ap suc (depth-members_data ms)

  pub depth-elements_data : (es : Elements) → port.items_depth (elements_data es) ≡ elements_depth es
  depth-elements_data no_elements = refl
  depth-elements_data (element t es) = rw (depth-data t, depth-elements_data es) refl

  pub depth-members_data : (ms : Members) → port.members_depth (members_data ms) ≡ members_depth ms
  depth-members_data no_members = refl
  depth-members_data (member name t ms) = rw (depth-data t, depth-members_data ms) refl

pub whole_no_float : (z : ℤ) → is_float (of_integer z) ≡ false
whole_no_float (pos n) = refl
whole_no_float (negsuc n) = refl

mutual
  pub no_float : (t : Tree) → has_float (data_of t) ≡ false
  no_float (leaf null) = refl
  no_float (leaf (flag b)) = refl
  no_float (leaf (whole z)) = whole_no_float z
  no_float (leaf (text s)) = refl
  no_float (array es) = no_float_elements es
  no_float (object ms) = no_float_members ms

  no_float_elements : (es : Elements) → items_have_float (elements_data es) ≡ false
  no_float_elements no_elements = refl
  no_float_elements (element t es) = rw (no_float t, no_float_elements es) refl

  no_float_members : (ms : Members) → members_have_float (members_data ms) ≡ false
  no_float_members no_members = refl
  no_float_members (member name t ms) = rw (no_float t, no_float_members ms) refl

-- A tree that a text reads to has ascending names.
use Rattle.std.specs.Prelude.{◌^◌, ◌&&◌, ◌==◌, slice_index, drop, nat_lt, nat_le, if◌then◌else◌}
use Rattle.std.specs.Float.{binary64, float_is_finite}
use Rattle.fast_float.specs.Text.{minus, Parts, scan, digits_of, nearest, with_sign}
use Rattle.std.proofs.Common.{◌≡◌, ℕ, zero, suc, negsuc, List, Bool, true, false, Option, Some, None, option_map, option_and_then, IfSome, Ordering, Less, Equal, Greater, nat_cmp, refl, ap, subst, ◌∙◌}
use Rattle.std.specs.Cmp.Lexicographic.{slice_cmp}
use Rattle.std.specs.Ordering.{match_ordering, ordering_reverse}
use Rattle.std.proofs.lemmas.Cmp.{nat_list_cmp_total}
use Rattle.json.specs.Json as json
use Rattle.json.specs.Lex.{tokens}
use Rattle.serde_json.specs.Data as port
use Rattle.serde_json.specs.Read.{max_depth, is_integer, float_of, number_from, number_of, of_json, of_items, of_members, read as value_of_text}
use Rattle.claim_tree.specs.Tree.{Text, Tree, leaf, array, object, Elements, no_elements, element, Members, no_members, member, names, IsOrdered, ElementsOrdered, MembersOrdered, IsBefore, IsBeforeAll}
use Rattle.claim_tree.specs.JsonText.{Reads, data_of, elements_data, members_data}

-- each name comes after k
abbrev pub AreAfter : Text → port.Members → Type 0
AreAfter k port.no_members = Unit {0}
AreAfter k (port.member l d ms) = IsBefore k l × AreAfter k ms

-- what is read of a number's text: a whole number with a sign is below 0
abbrev pub IsPlain : port.Num → Type 0
IsPlain (port.unsigned n) = Unit {0}
IsPlain (port.negative z) = (n : ℕ) × (z ≡ negsuc n)
IsPlain (port.float x) = Unit {0}

-- names ascend, and numbers are plain
abbrev mutual
  pub Ordered : port.Data → Type 0
  Ordered port.null = Unit {0}
  Ordered (port.boolean b) = Unit {0}
  Ordered (port.number n) = IsPlain n
  Ordered (port.string s) = Unit {0}
  Ordered (port.array ds) = ItemsOrdered ds
  Ordered (port.object ms) = NamesOrdered ms

  pub ItemsOrdered : port.Items → Type 0
  ItemsOrdered port.no_items = Unit {0}
  ItemsOrdered (port.item d ds) = Ordered d × ItemsOrdered ds

  pub NamesOrdered : port.Members → Type 0
  NamesOrdered port.no_members = Unit {0}
  NamesOrdered (port.member k d ms) = AreAfter k ms × Ordered d × NamesOrdered ms

-- ---- one member more

after_one : (o : Ordering) (j k l : Text) (d e : port.Data) (ms rest : port.Members) → IsBefore j k → IsBefore j l → AreAfter j ms → AreAfter j rest
    → AreAfter j (match_ordering o (port.member k d (port.member l e ms)) (port.member l d ms) (port.member l e rest))
after_one Less j k l d e ms rest b c all ih = (b, (c, all))
after_one Equal j k l d e ms rest b c all ih = (c, all)
after_one Greater j k l d e ms rest b c all ih = (c, ih)

pub after_put : (j k : Text) (d : port.Data) (ms : port.Members) → IsBefore j k → AreAfter j ms → AreAfter j (port.put k d ms)
after_put j k d port.no_members b all = (b, tt)
after_put j k d (port.member l e ms) b all = after_one (slice_cmp nat_cmp k l) j k l d e ms (port.put k d ms) b all.0 all.1 (after_put j k d ms b all.1)

pub after_through : (a b : Text) (ms : port.Members) → IsBefore a b → AreAfter b ms → AreAfter a ms
after_through a b port.no_members l all = tt
after_through a b (port.member n d ms) l all = (nat_list_cmp_total.trans a b n l all.0, after_through a b ms l all.1)

put_one : (o : Ordering) (k l : Text) (d e : port.Data) (ms : port.Members) → slice_cmp nat_cmp k l ≡ o → NamesOrdered (port.member l e ms) → Ordered d → NamesOrdered (port.put k d ms)
    → NamesOrdered (match_ordering o (port.member k d (port.member l e ms)) (port.member l d ms) (port.member l e (port.put k d ms)))
put_one Less k l d e ms is o p ih = ((is, after_through k l ms is o.0), p, o)
put_one Equal k l d e ms is o p ih = (o.0, p, o.2)
put_one Greater k l d e ms is o p ih =
    let before : IsBefore l k = nat_list_cmp_total.antisymm l k ∙ ap ordering_reverse is in
    (after_put l k d ms before o.0, o.1, ih)

put_ordered : (k : Text) (d : port.Data) (ms : port.Members) → NamesOrdered ms → Ordered d → NamesOrdered (port.put k d ms)
put_ordered k d port.no_members o p = (tt, p, tt)
put_ordered k d (port.member l e ms) o p = put_one (slice_cmp nat_cmp k l) k l d e ms refl o p (put_ordered k d ms o.2 p)

-- ---- what is read

plain_float : (sign : Bool) (p : Parts) → IfSome (float_of sign p) IsPlain
plain_float sign p = go (float_is_finite (nearest binary64 sign p))
  where
    go : (finite : Bool) → IfSome (if finite then Some (port.float (nearest binary64 sign p)) else None) IsPlain
    go true = tt
    go false = tt

plain_from : (sign : Bool) (p : Parts) → IfSome (number_from sign p) IsPlain
plain_from false p = go (is_integer p && nat_lt (digits_of p) (2 ^ 64))
  where
    go : (fits : Bool) → IfSome (if fits then Some (port.unsigned (digits_of p)) else float_of false p) IsPlain
    go true = tt
    go false = plain_float false p
plain_from true p = go (is_integer p) (nat_lt 0 (digits_of p)) (nat_le (digits_of p) (2 ^ 63)) (digits_of p) refl
  where
    go : (integer some fits : Bool) (n : ℕ) → nat_lt 0 n ≡ some → IfSome (if integer && some && fits then Some (port.negative (with_sign true n)) else float_of true p) IsPlain
    go false some fits n e = plain_float true p
    go true false fits n e = plain_float true p
    go true true false n e = plain_float true p
    go true true true zero e = absurd (cc e)
    go true true true (suc n) e = (n, refl)

plain_number : (s : List ℕ) → IfSome (number_of s) IsPlain
unfolding number_of
plain_number s = go (slice_index s 0 == minus)
  where
    go : (signed : Bool) → IfSome (if signed then number_from true (scan (drop 1 s)) else number_from false (scan s)) IsPlain
    go true = plain_from true (scan (drop 1 s))
    go false = plain_from false (scan s)

number_read : (o : Option port.Num) → IfSome o IsPlain → IfSome (option_map port.number o) Ordered
number_read None p = tt
number_read (Some n) p = p

array_read : (o : Option port.Items) → IfSome o ItemsOrdered → IfSome (option_map port.array o) Ordered
array_read None h = tt
array_read (Some ds) h = h

object_read : (o : Option port.Members) → IfSome o NamesOrdered → IfSome (option_map port.object o) Ordered
object_read None h = tt
object_read (Some ms) h = h

item_read : (o : Option port.Data) (os : Option port.Items) → IfSome o Ordered → IfSome os ItemsOrdered → IfSome (option_and_then (λ d. option_map (port.item d) os) o) ItemsOrdered
item_read None os h k = tt
item_read (Some d) None h k = tt
item_read (Some d) (Some ds) h k = (h, k)

member_read : (f : port.Data → Option port.Members) (o : Option port.Data) → IfSome o Ordered → ((d : port.Data) → Ordered d → IfSome (f d) NamesOrdered) → IfSome (option_and_then f o) NamesOrdered
member_read f None h more = tt
member_read f (Some d) h more = more d h

mutual
  json_read : (j : json.Json) → IfSome (of_json j) Ordered
  json_read json.null = tt
  json_read (json.boolean b) = tt
  json_read (json.number s) = number_read (number_of s) (plain_number s)
  json_read (json.string s) = tt
  json_read (json.array js) = array_read (of_items js) (items_read js)
  json_read (json.object ms) = object_read (of_members ms port.no_members) (members_read ms port.no_members tt)

  items_read : (js : json.Items) → IfSome (of_items js) ItemsOrdered
  items_read json.no_items = tt
  items_read (json.item j js) = item_read (of_json j) (of_items js) (json_read j) (items_read js)

  members_read : (ms : json.Members) (found : port.Members) → NamesOrdered found → IfSome (of_members ms found) NamesOrdered
  members_read json.no_members found o = o
  members_read (json.member k j ms) found o = member_read (λ d. of_members ms (port.put k d found)) (of_json j) (json_read j) (λ d p. members_read ms (port.put k d found) (put_ordered k d found o p))

any_read : (o : Option json.Json) → IfSome (option_and_then of_json o) Ordered
any_read None = tt
any_read (Some j) = json_read j

pub data_ordered : (bytes : Text) (d : port.Data) → value_of_text bytes ≡ Some d → Ordered d
data_ordered bytes d value = subst (λ (o : Option port.Data). IfSome o Ordered) value (any_read (option_and_then (λ p. json.if_last p.0 p.1) (json.value max_depth (tokens bytes))))

-- ---- the tree

names_after : (k : Text) (ms : Members) → AreAfter k (members_data ms) → IsBeforeAll k (names ms)
names_after k no_members h = tt
names_after k (member l t ms) h = (h.0, names_after k ms h.1)

mutual
  tree_ordered : (t : Tree) → Ordered (data_of t) → IsOrdered t
  tree_ordered (leaf l) o = tt
  tree_ordered (array es) o = elements_ordered es o
  tree_ordered (object ms) o = members_ordered ms o

  elements_ordered : (es : Elements) → ItemsOrdered (elements_data es) → ElementsOrdered es
  elements_ordered no_elements o = tt
  elements_ordered (element t es) o = (tree_ordered t o.0, elements_ordered es o.1)

  members_ordered : (ms : Members) → NamesOrdered (members_data ms) → MembersOrdered ms
  members_ordered no_members o = tt
  members_ordered (member k t ms) o = (names_after k ms o.0, tree_ordered t o.1, members_ordered ms o.2)

pub reads_ordered : (bytes : Text) (t : Tree) → Reads bytes t → IsOrdered t
reads_ordered bytes t reads = tree_ordered t (data_ordered bytes (data_of t) reads.value)

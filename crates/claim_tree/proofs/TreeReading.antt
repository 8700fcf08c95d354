-- The grammar's loops, a turn at a time, where each value is a tree.
use Rattle.std.proofs.Common.{◌≡◌, ℕ, zero, suc, ◌-◌, ◌<◌, ◌≤◌, List, [], ◌∷◌, ◌++◌, length, Option, Some, None, inl, inr, ◌⊎◌, Bor, option_map, option_and_then, Ordering, Less, Equal, Greater, refl, sym, ap, ◌∙◌}
use Rattle.std.specs.BTreeMap.{insert_entry}
use Rattle.std.specs.List.{AllByRecursion}
use Rattle.std.specs.List.Sorted.{IsStrictlySortedBy}
use Rattle.std.specs.Map.{keys_of}
use Rattle.std.specs.Ordering.{match_ordering, ordering_reverse}
use Rattle.json.specs.Token.{Token}
use Rattle.json.specs.Reads.{token_of}
use Rattle.json.specs.declared.token.Token.{Token as ReadToken}
use Rattle.json.specs.declared.token.Token.TheVariants.{EndObject, EndArray, Key, Bad}
use Rattle.json.specs.Json as json
use Rattle.json.specs.Json.{Parse, parse_map, after_end_array, read_key, items_step, items, members, value}
use Rattle.json.proofs.Grammar.{items_end, items_more, members_end, members_no_key, members_more, value_is, value-begin_array, value-begin_object}
use Rattle.serde_json.specs.Data.{Data, array, object, Items, no_items, item, Members, no_members, put}
use Rattle.serde_json.specs.Data as port
use Rattle.serde_json.specs.Read.{of_json, of_items, of_members, converted}
use Rattle.claim_tree.specs.Tree as tree
use Rattle.claim_tree.specs.Tree.{Text, Tree, Elements, no_elements, element, inserted}
use Rattle.claim_tree.specs.TreeCalls.{pushed}
use Rattle.claim_tree.specs.View.{tree_of}
use Rattle.claim_tree.specs.ListViews.{members_of}
use Rattle.claim_tree.specs.declared.tree.Tree.{Tree as Value}
use Rattle.claim_tree.specs.JsonText.{data_of, elements_data, members_data}
use Rattle.claim_tree.proofs.MapPlaces.{cmp, order, same_name}

-- ---- what a reading is

abbrev value_or : {A : Type 0} → A → Option A → A
value_or d None = d
value_or d (Some a) = a

found : {B : Type 0} (r s : List Token) (x : Option B) (b : B) → option_map {U = B × List Token} (λ y. (y, r)) x ≡ Some (b, s) → (r ≡ s) × (x ≡ Some b)
found r s None b e = absurd (cc)
found r s (Some y) b e = let same = ap (value_or (y, r)) e in (ap (λ p. p.1) same, ap (λ p. Some p.0) same)

pub converted_some : {A B : Type 0} (f : A → Option B) (o : Option (A × List Token)) (b : B) (r : List Token) → converted f o ≡ Some (b, r) → (a : A) × (o ≡ Some (a, r)) × (f a ≡ Some b)
converted_some f None b r e = absurd (cc)
converted_some f (Some p) b r e = let both = found p.1 r (f p.0) b e in (p.0, ap (λ s. Some (p.0, s)) both.0, both.1)

refused : {B : Type 0} (r : List Token) (x : Option B) → option_map {U = B × List Token} (λ y. (y, r)) x ≡ None → x ≡ None
refused r None e = refl
refused r (Some y) e = absurd (cc)

twice : {A B : Type 0} (g : A → B) (r : List Token) (x : Option A) → option_map (λ b. (b, r)) (option_map g x) ≡ parse_map g (option_map (λ a. (a, r)) x)
twice g r None = refl
twice g r (Some a) = refl

pub converted-array : (o : Option (json.Items × List Token)) → converted of_json (parse_map json.array o) ≡ parse_map array (converted of_items o)
converted-array None = refl
converted-array (Some p) = twice array p.1 (of_items p.0)

pub converted-object : (o : Option (json.Members × List Token)) → converted of_json (parse_map json.object o) ≡ parse_map object (converted (λ ms. of_members ms no_members) o)
converted-object None = refl
converted-object (Some p) = twice object p.1 (of_members p.0 no_members)

-- the tokens begin with a list, and this many may nest inside it
pub array_begun : (depth inner : ℕ) (ts r : List Token) → ts ≡ Token.begin_array ∷ r → 0 < depth → inner ≡ depth - 1 → converted of_json (value depth ts) ≡ parse_map array (converted of_items (items (value inner) (length r) r))
array_begun depth inner ts r e some is = rw (e, is) (ap (converted of_json) (value-begin_array depth r some) ∙ converted-array (items (value (depth - 1)) (length r) r))

pub object_begun : (depth inner : ℕ) (ts r : List Token) → ts ≡ Token.begin_object ∷ r → 0 < depth → inner ≡ depth - 1
    → converted of_json (value depth ts) ≡ parse_map object (converted (λ ms. of_members ms no_members) (members (value inner) (length r) r))
object_begun depth inner ts r e some is = rw (e, is) (ap (converted of_json) (value-begin_object depth r some) ∙ converted-object (members (value (depth - 1)) (length r) r))

pub array_too_deep : (depth : ℕ) (ts r : List Token) → ts ≡ Token.begin_array ∷ r → depth ≡ 0 → converted of_json (value depth ts) ≡ None
unfolding value
array_too_deep depth ts r e none = rw (e, none)

pub object_too_deep : (depth : ℕ) (ts r : List Token) → ts ≡ Token.begin_object ∷ r → depth ≡ 0 → converted of_json (value depth ts) ≡ None
unfolding value
object_too_deep depth ts r e none = rw (e, none)

-- the tokens begin with one that begins no value
pub none_begun : (depth : ℕ) (k : ReadToken) (ts r : List Token) → ts ≡ token_of k ∷ r → (k ≡ EndObject) ⊎ ((k ≡ EndArray) ⊎ (((x : Bor (List ℕ)) × k ≡ Key x) ⊎ (k ≡ Bad))) → converted of_json (value depth ts) ≡ None
none_begun depth k ts r e (inl is) = ap (converted of_json) (ap (value depth) (e ∙ ap (λ k. token_of k ∷ r) is) ∙ value_is depth _)
none_begun depth k ts r e (inr (inl is)) = ap (converted of_json) (ap (value depth) (e ∙ ap (λ k. token_of k ∷ r) is) ∙ value_is depth _)
none_begun depth k ts r e (inr (inr (inl is))) = ap (converted of_json) (ap (value depth) (e ∙ ap (λ k. token_of k ∷ r) is.1) ∙ value_is depth _)
none_begun depth k ts r e (inr (inr (inr is))) = ap (converted of_json) (ap (value depth) (e ∙ ap (λ k. token_of k ∷ r) is) ∙ value_is depth _)

pub unread : {A B : Type 0} (f : A → B) (o : Option (A × List Token)) → parse_map f o ≡ None → o ≡ None
unread f None e = refl
unread f (Some p) e = absurd (cc)

-- what was read where something is known of it
pub parse_some : {A B : Type 0} (f : A → B) (o : Option (A × List Token)) (b : B) (r : List Token) → parse_map f o ≡ Some (b, r) → (a : A) × (o ≡ Some (a, r)) × (f a ≡ b)
parse_some f None b r e = absurd (cc)
parse_some f (Some p) b r e = let same = ap (value_or (b, r)) e in (p.0, ap (λ q. Some (p.0, q.1)) same, ap (λ q. q.0) same)

with_item : (j : json.Json) (d : Data) → of_json j ≡ Some d → (o : Option (json.Items × List Token)) → converted of_items (parse_map (json.item j) o) ≡ parse_map (item d) (converted of_items o)
with_item j d e None = refl
with_item j d e (Some p) = rw e (twice (item d) p.1 (of_items p.0))

without_item : (j : json.Json) → of_json j ≡ None → (o : Option (json.Items × List Token)) → converted of_items (parse_map (json.item j) o) ≡ None
without_item j e None = refl
without_item j e (Some p) = rw e

without_member : (k : Text) (j : json.Json) (old : Members) → of_json j ≡ None → (o : Option (json.Members × List Token)) → converted (λ ms. of_members ms old) (parse_map (json.member k j) o) ≡ None
without_member k j old e None = refl
without_member k j old e (Some p) = rw e

with_member : (k : Text) (j : json.Json) (d : Data) (old : Members) → of_json j ≡ Some d → (o : Option (json.Members × List Token))
    → converted (λ ms. of_members ms old) (parse_map (json.member k j) o) ≡ converted (λ ms. of_members ms (put k d old)) o
with_member k j d old e None = refl
with_member k j d old e (Some p) = rw e

-- ---- a turn of each loop

module _ (p : Parse json.Json) where
  pub item_read : (n : ℕ) (ts r : List Token) (d : Data) → 0 < n → after_end_array ts ≡ None → converted of_json (p ts) ≡ Some (d, r)
      → converted of_items (items p n ts) ≡ parse_map (item d) (converted of_items (items p (n - 1) r))
  item_read n ts r d some going e = let j = converted_some of_json (p ts) d r e in ap (converted of_items) (items_more p n ts r j.0 some going j.1) ∙ with_item j.0 d j.2 _

  no_item : (more : Parse json.Items) (o : Option (json.Json × List Token)) → converted of_json o ≡ None → converted of_items (option_and_then (λ q. parse_map (json.item q.0) (more q.1)) o) ≡ None
  no_item more None e = refl
  no_item more (Some q) e = without_item q.0 (refused q.1 (of_json q.0) e) (more q.1)

  pub item_refused : (n : ℕ) (ts : List Token) → after_end_array ts ≡ None → converted of_json (p ts) ≡ None → converted of_items (items p n ts) ≡ None
  unfolding items
  item_refused zero ts going e = refl
  item_refused (suc n) ts going e = ap (λ o. converted of_items (items_step p (items p n) ts o)) going ∙ no_item (items p n) (p ts) e

  pub items_over : (n : ℕ) (ts r : List Token) → length ts ≤ n → after_end_array ts ≡ Some r → converted of_items (items p n ts) ≡ Some (no_items, r)
  items_over n ts r enough e = ap (converted of_items) (items_end p n ts r enough e)

  pub member_read : (old : Members) (n : ℕ) (k : Text) (ts s r : List Token) (d : Data) → 0 < n → read_key ts ≡ Some (Some k, s) → converted of_json (p s) ≡ Some (d, r)
      → converted (λ ms. of_members ms old) (members p n ts) ≡ converted (λ ms. of_members ms (put k d old)) (members p (n - 1) r)
  member_read old n k ts s r d some key e =
      let j = converted_some of_json (p s) d r e in
      ap (converted (λ ms. of_members ms old)) (members_more p n k ts s r j.0 some key j.1) ∙ with_member k j.0 d old j.2 _

  no_member : (old : Members) (k : Text) (more : Parse json.Members) (o : Option (json.Json × List Token)) → converted of_json o ≡ None
      → converted (λ ms. of_members ms old) (option_and_then (λ q. parse_map (json.member k q.0) (more q.1)) o) ≡ None
  no_member old k more None e = refl
  no_member old k more (Some q) e = without_member k q.0 old (refused q.1 (of_json q.0) e) (more q.1)

  pub member_refused : (old : Members) (n : ℕ) (k : Text) (ts s : List Token) → read_key ts ≡ Some (Some k, s) → converted of_json (p s) ≡ None → converted (λ ms. of_members ms old) (members p n ts) ≡ None
  unfolding members
  member_refused old zero k ts s key e = refl
  member_refused old (suc n) k ts s key e = rw key (no_member old k (members p n) (p s) e)

  pub key_refused : (old : Members) (n : ℕ) (ts : List Token) → read_key ts ≡ None → converted (λ ms. of_members ms old) (members p n ts) ≡ None
  key_refused old n ts e = ap (converted (λ ms. of_members ms old)) (members_no_key p n ts e)

  pub members_over : (old : Members) (n : ℕ) (ts r : List Token) → length ts ≤ n → read_key ts ≡ Some (None, r) → converted (λ ms. of_members ms old) (members p n ts) ≡ Some (old, r)
  members_over old n ts r enough e = ap (converted (λ ms. of_members ms old)) (members_end p n ts r enough e)

-- ---- elements that grow at their end

abbrev pub items_before : Elements → Items → Items
items_before no_elements rest = rest
items_before (element t es) rest = item (data_of t) (items_before es rest)

pub items_before-no_items : (es : Elements) → items_before es no_items ≡ elements_data es
items_before-no_items no_elements = refl
items_before-no_items (element t es) = ap (item (data_of t)) (items_before-no_items es)

pub none_before : (o : Option (Items × List Token)) → o ≡ parse_map (items_before no_elements) o
none_before None = refl
none_before (Some p) = refl

items_push : (es : Elements) (t : Tree) (rest : Items) → items_before es (item (data_of t) rest) ≡ items_before (pushed es t) rest
items_push no_elements t rest = refl
items_push (element u es) t rest = ap (item (data_of u)) (items_push es t rest)

pub one_more_item : (es : Elements) (t : Tree) (r : Option (Items × List Token)) → parse_map (items_before es) (parse_map (item (data_of t)) r) ≡ parse_map (items_before (pushed es t)) r
one_more_item es t None = refl
one_more_item es t (Some p) = ap (λ ds. Some (ds, p.1)) (items_push es t p.0)

-- ---- one member more

put_by : (o : Ordering) (name other : Text) (t u : Tree) (ms : tree.Members) → cmp other name ≡ o → members_data (inserted ms name t) ≡ put name (data_of t) (members_data ms)
    → members_data (match_ordering o (tree.member other u (inserted ms name t)) (tree.member name t ms) (tree.member name t (tree.member other u ms)))
    ≡ match_ordering (ordering_reverse o) (port.member name (data_of t) (port.member other (data_of u) (members_data ms))) (port.member other (data_of t) (members_data ms)) (port.member other (data_of u) (put name (data_of t) (members_data ms)))
put_by Less name other t u ms is e = ap (port.member other (data_of u)) e
put_by Equal name other t u ms is e = ap (λ k. port.member k (data_of t) (members_data ms)) (sym (same_name other name is))
put_by Greater name other t u ms is e = refl

pub members_data-put : (ms : tree.Members) (name : Text) (t : Tree) → members_data (inserted ms name t) ≡ put name (data_of t) (members_data ms)
members_data-put tree.no_members name t = refl
members_data-put (tree.member other u ms) name t =
    put_by (cmp other name) name other t u ms refl (members_data-put ms name t)
    ∙ ap (λ o. match_ordering o (port.member name (data_of t) (port.member other (data_of u) (members_data ms))) (port.member other (data_of t) (members_data ms)) (port.member other (data_of u) (put name (data_of t) (members_data ms)))) (sym ((order).antisymm name other))

-- ---- members that are sorted

members_by : (o : Ordering) (a b c : List (Text × Value)) → members_data (members_of (match_ordering o a b c)) ≡ match_ordering o (members_data (members_of a)) (members_data (members_of b)) (members_data (members_of c))
members_by Less a b c = refl
members_by Equal a b c = refl
members_by Greater a b c = refl

pub insert_entry-put : (es : List (Text × Value)) (name : Text) (t : Value) → members_data (members_of (insert_entry cmp es name t)) ≡ put name (data_of (tree_of t)) (members_data (members_of es))
insert_entry-put [] name t = refl
insert_entry-put (e ∷ es) name t = members_by (cmp name e.0) _ _ _ ∙ rw (insert_entry-put es name t)

below_middle : (first : Text × Value) (es : List (Text × Value)) (e : Text × Value) (more : List (Text × Value)) → AllByRecursion (λ y. cmp first.0 y ≡ Less) (keys_of (es ++ e ∷ more)) → cmp first.0 e.0 ≡ Less
below_middle first [] e more h = h.0
below_middle first (x ∷ es) e more h = below_middle first es e more h.1

-- a name that is above those before it goes last
pub put_last : (done : List (Text × Value)) (e : Text × Value) (more : List (Text × Value)) → IsStrictlySortedBy cmp (keys_of (done ++ e ∷ more))
    → put e.0 (data_of (tree_of e.1)) (members_data (members_of done)) ≡ members_data (members_of (done ++ e ∷ []))
unfolding IsStrictlySortedBy
put_last [] e more h = refl
put_last (first ∷ done) e more h =
    let above : cmp e.0 first.0 ≡ Greater = (order).antisymm e.0 first.0 ∙ ap ordering_reverse (below_middle first done e more h.0) in
    rw above (ap (port.member first.0 (data_of (tree_of first.1))) (put_last done e more h.1))

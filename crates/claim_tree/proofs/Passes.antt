-- The grammar's loops, a turn at a time, and what a reading of a text sees of each value.
use Rattle.std.proofs.Common.{◌≡◌, ℕ, ◌-◌, ◌<◌, List, Bool, true, false, ◌||◌, Option, Some, None, option_map, Ordering, Less, Equal, Greater, nat_cmp, refl, sym, ap, ap₂, ◌∙◌}
use Rattle.std.specs.Prelude.{bytes_eq, if◌then◌else◌}
use Rattle.std.specs.Cmp.Lexicographic.{slice_cmp}
use Rattle.std.specs.Ordering.{match_ordering}
use Rattle.json.specs.Token.{Token}
use Rattle.json.specs.Json as json
use Rattle.json.specs.Json.{Parse, parse_map, after_end_array, items}
use Rattle.serde_json.specs.Data.{Num, Data, null, boolean, number, string, array, object, Items, no_items, item, Members, no_members, member, put}
use Rattle.serde_json.specs.Find.{is_float}
use Rattle.serde_json.specs.Read.{of_json, of_items, converted}
use Rattle.serde_json.specs.Written.{has_float, items_have_float, members_have_float}
use Rattle.claim_tree.specs.Tree.{Text, IsBefore}
use Rattle.claim_tree.specs.Passes.{is_wanted, member_pass, is_later, with_seen, seen, seen_items, seen_members}
use Rattle.claim_tree.specs.declared.pass.Pass.{Pass}
use Rattle.claim_tree.specs.declared.pass.Pass.TheVariants.{First, Again, Named}
use Rattle.claim_tree.proofs.MapPlaces.{same_name}
use Rattle.claim_tree.proofs.ReadOrdered.{AreAfter, after_through}
use Rattle.claim_tree.proofs.FloatNames.{Ascend}
use Rattle.claim_tree.proofs.TreeReading.{parse_some, item_read}

-- ---- the first reading sees all

mutual
  pub all_seen : (d : Data) → seen First d ≡ d
  all_seen null = refl
  all_seen (boolean b) = refl
  all_seen (number n) = refl
  all_seen (string s) = refl
  all_seen (array ds) = ap array (all_items ds)
  all_seen (object ms) = ap object (all_members ms)

  pub all_items : (ds : Items) → seen_items First ds ≡ ds
  all_items no_items = refl
  all_items (item d ds) = ap₂ item (all_seen d) (all_items ds)

  pub all_members : (ms : Members) → seen_members First ms ≡ ms
  all_members no_members = refl
  all_members (member k d ms) = ap₂ (member k) (all_seen d) (all_members ms)

-- ---- a later one sees all where each number is whole

neither : (a b : Bool) → (a || b) ≡ false → (a ≡ false) × (b ≡ false)
neither true b e = absurd (cc)
neither false b e = (refl, e)

mutual
  pub whole_seen : (d : Data) → has_float d ≡ false → seen Again d ≡ d
  whole_seen null e = refl
  whole_seen (boolean b) e = refl
  whole_seen (number n) e = rw e
  whole_seen (string s) e = refl
  whole_seen (array ds) e = ap array (whole_items ds e)
  whole_seen (object ms) e = ap object (whole_members ms e)

  whole_items : (ds : Items) → items_have_float ds ≡ false → seen_items Again ds ≡ ds
  whole_items no_items e = refl
  whole_items (item d ds) e = let both = neither (has_float d) (items_have_float ds) e in ap₂ item (whole_seen d both.0) (whole_items ds both.1)

  whole_members : (ms : Members) → members_have_float ms ≡ false → seen_members Again ms ≡ ms
  whole_members no_members e = refl
  whole_members (member k d ms) e = let both = neither (has_float d) (members_have_float ms) e in ap₂ (member k) (whole_seen d both.0) (whole_members ms both.1)

-- a whole number is seen as it is
pub whole_number : (pass : Pass) (n : Num) → is_float n ≡ false → seen pass (number n) ≡ number n
whole_number First n e = refl
whole_number Again n e = rw e
whole_number (Named wanted) n e = rw e

-- null stands for a number that is not whole
pub float_seen : (pass : Pass) (n : Option Num) → is_later pass ≡ true → option_map is_float n ≡ Some true → option_map (λ n. seen pass (number n)) n ≡ Some null
float_seen pass None later e = absurd (cc)
float_seen pass (Some n) later e = let is : is_float n ≡ true = cc e in rw (later, is)

-- ---- a later reading is one inside too

pub later_inside : (pass inner : Pass) (name : Text) → is_later pass ≡ true → member_pass pass name ≡ Some inner → is_later inner ≡ true
later_inside First inner name later e = absurd (cc)
later_inside Again inner name later e = ap is_later (sym (some_same e))
  where
    some_same : Some Again ≡ Some inner → Again ≡ inner
    some_same e = cc e
later_inside (Named wanted) inner name later e = go (is_wanted wanted name) (bytes_eq wanted.whole.now name) e
  where
    go : (wants whole : Bool) → (if wants then Some (if whole then Again else Named wanted) else None) ≡ Some inner → is_later inner ≡ true
    go false whole e = absurd (cc)
    go true true e = let same : Again ≡ inner = cc e in ap is_later (sym same)
    go true false e = let same : Named wanted ≡ inner = cc e in ap is_later (sym same)

-- ---- one value more

module _ (pass : Pass) where
  pub number_seen : (n : Option Num) (r : List Token) → parse_map (seen pass) (option_map (λ d. (d, r)) (option_map number n)) ≡ option_map (λ d. (d, r)) (option_map (λ n. seen pass (number n)) n)
  number_seen None r = refl
  number_seen (Some n) r = refl

  pub array_seen : (o : Option (Items × List Token)) → parse_map (seen pass) (parse_map array o) ≡ parse_map array (parse_map (seen_items pass) o)
  array_seen None = refl
  array_seen (Some p) = refl

  pub object_seen : (o : Option (Members × List Token)) → parse_map (seen pass) (parse_map object o) ≡ parse_map object (parse_map (seen_members pass) o)
  object_seen None = refl
  object_seen (Some p) = refl

  one_more : (d : Data) (o : Option (Items × List Token)) → parse_map (seen_items pass) (parse_map (item d) o) ≡ parse_map (item (seen pass d)) (parse_map (seen_items pass) o)
  one_more d None = refl
  one_more d (Some p) = refl

  pub item_seen : (p : Parse json.Json) (n : ℕ) (ts r : List Token) (d : Data) → 0 < n → after_end_array ts ≡ None → parse_map (seen pass) (converted of_json (p ts)) ≡ Some (d, r)
      → parse_map (seen_items pass) (converted of_items (items p n ts)) ≡ parse_map (item d) (parse_map (seen_items pass) (converted of_items (items p (n - 1) r)))
  item_seen p n ts r d some going e =
      let was = parse_some (seen pass) (converted of_json (p ts)) d r e in
      ap (parse_map (seen_items pass)) (item_read p n ts r was.0 some going was.1) ∙ one_more was.0 _ ∙ ap (λ d. parse_map (item d) (parse_map (seen_items pass) (converted of_items (items p (n - 1) r)))) was.2

-- ---- one member more

-- the member k, as it is seen, among these
abbrev put_seen : Text → Option Data → Members → Members
put_seen k None ms = ms
put_seen k (Some d) ms = put k d ms

after_seen : (j k : Text) (o : Option Data) (ms : Members) → IsBefore j k → AreAfter j ms → AreAfter j (with_seen k o ms)
after_seen j k None ms b all = all
after_seen j k (Some d) ms b all = (b, all)

-- what is seen comes after a name where all does
all_after : (pass : Pass) (j : Text) (ms : Members) → AreAfter j ms → AreAfter j (seen_members pass ms)
all_after pass j no_members a = tt
all_after pass j (member k d ms) a = after_seen j k (option_map (λ inner. seen inner d) (member_pass pass k)) (seen_members pass ms) a.0 (all_after pass j ms a.1)

-- a name before all others goes first
first_put : (k : Text) (d : Data) (ms : Members) → AreAfter k ms → member k d ms ≡ put k d ms
first_put k d no_members a = refl
first_put k d (member l e ms) a = rw a.0

put_before : (k : Text) (o : Option Data) (ms : Members) → AreAfter k ms → with_seen k o ms ≡ put_seen k o ms
put_before k None ms a = refl
put_before k (Some d) ms a = first_put k d ms a

put_over : (k l : Text) (x y : Option Data) (ms : Members) → slice_cmp nat_cmp k l ≡ Equal → ((y ≡ None) → x ≡ None) → ((x ≡ None) → y ≡ None) → with_seen l x ms ≡ put_seen k x (with_seen l y ms)
put_over k l None None ms is one two = refl
put_over k l None (Some e) ms is one two = absurd (let e : Some e ≡ None = two refl in cc e)
put_over k l (Some d) None ms is one two = absurd (let e : Some d ≡ None = one refl in cc e)
put_over k l (Some d) (Some e) ms is one two = rw is

put_behind : (k l : Text) (x y : Option Data) (ms : Members) → slice_cmp nat_cmp k l ≡ Greater → with_seen l y (put_seen k x ms) ≡ put_seen k x (with_seen l y ms)
put_behind k l None y ms is = refl
put_behind k l (Some d) None ms is = refl
put_behind k l (Some d) (Some e) ms is = rw is

unseen : (d e : Data) (o : Option Pass) → option_map (λ inner. seen inner d) o ≡ None → option_map (λ inner. seen inner e) o ≡ None
unseen d e None is = refl
unseen d e (Some inner) is = absurd (cc is)

module _ (pass : Pass) where
  abbrev seen_under : Text → Data → Option Data
  seen_under k d = option_map (λ inner. seen inner d) (member_pass pass k)

  same_unseen : (k l : Text) (d e : Data) → k ≡ l → seen_under k d ≡ None → seen_under l e ≡ None
  same_unseen k l d e same is = ap (λ n. seen_under n e) (sym same) ∙ unseen d e (member_pass pass k) is

  put_by : (o : Ordering) (k l : Text) (d e : Data) (ms : Members) → slice_cmp nat_cmp k l ≡ o → Ascend (member l e ms) → seen_members pass (put k d ms) ≡ put_seen k (seen_under k d) (seen_members pass ms)
      → seen_members pass (match_ordering o (member k d (member l e ms)) (member l d ms) (member l e (put k d ms))) ≡ put_seen k (seen_under k d) (with_seen l (seen_under l e) (seen_members pass ms))
  put_by Less k l d e ms is a more = put_before k (seen_under k d) (seen_members pass (member l e ms)) (all_after pass k (member l e ms) (is, after_through k l ms is a.0))
  put_by Equal k l d e ms is a more =
      let same : k ≡ l = same_name k l is in
      put_over k l (seen_under l d) (seen_under l e) (seen_members pass ms) is (λ none. same_unseen l l e d refl none) (λ none. same_unseen l l d e refl none)
      ∙ ap (λ n. put_seen k (seen_under n d) (with_seen l (seen_under l e) (seen_members pass ms))) (sym same)
  put_by Greater k l d e ms is a more = ap (with_seen l (seen_under l e)) more ∙ put_behind k l (seen_under k d) (seen_under l e) (seen_members pass ms) is

  put_one : (k : Text) (d : Data) (ms : Members) → Ascend ms → seen_members pass (put k d ms) ≡ put_seen k (seen_under k d) (seen_members pass ms)
  put_one k d no_members a = put_before k (seen_under k d) no_members tt
  put_one k d (member l e ms) a = put_by (slice_cmp nat_cmp k l) k l d e ms refl a (put_one k d ms a.1)

  -- a member that is read goes among those that are seen
  pub member_put : (k : Text) (inner : Pass) (d : Data) (ms : Members) → Ascend ms → member_pass pass k ≡ Some inner → seen_members pass (put k d ms) ≡ put k (seen inner d) (seen_members pass ms)
  member_put k inner d ms a is = put_one k d ms a ∙ ap (λ o. put_seen k (option_map (λ inner. seen inner d) o) (seen_members pass ms)) is

  -- one that is passed over changes nothing that is seen
  pub passed_over : (k : Text) (d : Data) (ms : Members) → Ascend ms → member_pass pass k ≡ None → seen_members pass (put k d ms) ≡ seen_members pass ms
  passed_over k d ms a is = put_one k d ms a ∙ ap (λ o. put_seen k (option_map (λ inner. seen inner d) o) (seen_members pass ms)) is

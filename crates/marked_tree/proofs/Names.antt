-- Members that ascend: where a name stands among them, and what is put there.
use Rattle.std.proofs.Common.{◌≡◌, ◌⊎◌, inl, inr, ℕ, zero, suc, ◌+◌, ◌-◌, ◌<◌, true, List, [], ◌∷◌, length, drop, set, get_or, Option, Some, Ordering, Less, Equal, Greater, Result, Ok, Err, MatchResult, refl, sym, ap, subst, ◌∙◌, arith}
use Rattle.std.specs.Prelude.{◌==◌}
use Rattle.std.specs.List.{insert, slice_get}
use Rattle.std.specs.List.Sorted.{IsSortedBy, IsSearchInRange, IsBinarySearchResult}
use Rattle.std.specs.Ordering.{match_ordering, is_lt, ordering_reverse, ordering_index}
use Rattle.std.proofs.lemmas.Cmp.{is_lt_index, tied_itself}
use Rattle.std.proofs.lemmas.List.Sorted.{searchable_from_sorted}
use Rattle.claim_tree.specs.Tree.{Text, member, names, inserted, IsBefore, IsBeforeAll, IsOrdered, MembersOrdered}
use Rattle.sd_outside.specs.Lists.{StandsAt}
use Rattle.sd_outside.proofs.Lists.{At-below, At-same}
use Rattle.claim_tree.proofs.MapPlaces.{cmp, order, same_name, before_after, before_through, is_less, ordered-inserted}
use Rattle.marked_tree.specs.Marked as spec
use Rattle.marked_tree.specs.Marked.{MarkedMembers, marked_member, no_marked_members, put, strip, strip_members}
use Rattle.marked_tree.specs.MarkedCalls.{marked_names, marked_inserted}
use Rattle.marked_tree.specs.NamePositions.{IsNameGap}
use Rattle.marked_tree.specs.declared.marked.Marked.{Marked}
use Rattle.marked_tree.specs.View.{marked_of, marked_members_of}
use Rattle.marked_tree.proofs.MarkedViews.{Entry}

-- ---- names

pub turned_back : (a b : Text) → IsBefore a b → cmp b a ≡ Greater
turned_back a b e = (order).antisymm b a ∙ ap ordering_reverse e

pub tie_turned : (a b : Text) → cmp a b ≡ Equal → cmp b a ≡ Equal
tie_turned a b e = (order).antisymm b a ∙ ap ordering_reverse e

abbrev pub Ascend : List Text → Type 0
Ascend [] = Unit {0}
Ascend (n ∷ ns) = IsBeforeAll n ns × Ascend ns

pub names-strip : (ms : MarkedMembers) → names (strip_members ms) ≡ marked_names ms
names-strip no_marked_members = refl
names-strip (marked_member k i t ms) = ap (λ ns. k ∷ ns) (names-strip ms)

pub ascend : (ms : MarkedMembers) → MembersOrdered (strip_members ms) → Ascend (marked_names ms)
ascend no_marked_members o = tt
ascend (marked_member k i t ms) o = (subst (IsBeforeAll k) (names-strip ms) o.0, ascend ms o.2)

abbrev pub names_of : List Entry → List Text
names_of ms = marked_names (marked_members_of ms)

pub length-names : (ms : List Entry) → length (names_of ms) ≡ length ms
length-names [] = refl
length-names (m ∷ ms) = ap suc (length-names ms)

name_there : (ms : List Entry) (k : ℕ) (other : Text) (d : Entry) → StandsAt (names_of ms) k other → (get_or ms k d).0 ≡ other
name_there (m ∷ ms) zero other d h = sym h
name_there (m ∷ ms) (suc k) other d h = name_there ms k other d h
name_there [] k other d h = elim h [ ]

before_at : (name : Text) (ns : List Text) (k : ℕ) (other : Text) → IsBeforeAll name ns → StandsAt ns k other → IsBefore name other
before_at name (n ∷ ns) zero other all h = subst (IsBefore name) (sym h) all.0
before_at name (n ∷ ns) (suc k) other all h = before_at name ns k other all.1 h
before_at name [] k other all h = elim h [ ]

ascends : (ns : List Text) (k l : ℕ) (a b : Text) → Ascend ns → k < l → StandsAt ns k a → StandsAt ns l b → IsBefore a b
ascends (n ∷ ns) k zero a b o l p q = absurd (omega arith)
ascends (n ∷ ns) zero (suc j) a b o l p q = subst (λ c. IsBefore c b) (sym p) (before_at n ns j b o.0 q)
ascends (n ∷ ns) (suc k) (suc j) a b o l p q = ascends ns k j a b o.1 (omega arith) p q
ascends [] k l a b o h p q = elim p [ ]

at_name : (ms : List Entry) (k : ℕ) (d : Entry) → k < length ms → StandsAt (names_of ms) k (get_or ms k d).0
at_name (m ∷ ms) zero d l = refl
at_name (m ∷ ms) (suc k) d l = at_name ms k d (omega arith)
at_name [] k d l = absurd (omega arith)

sorted : (ms : List Entry) → Ascend (names_of ms) → IsSortedBy (λ (a b : Entry). is_lt (cmp a.0 b.0)) ms
sorted ms o k d l h =
    ap is_lt (turned_back (get_or ms k d).0 (get_or ms (k + 1) d).0
    (ascends (names_of ms) k (k + 1) (get_or ms k d).0 (get_or ms (k + 1) d).0 o (omega arith) (at_name ms k d (omega arith)) (at_name ms (k + 1) d h)))

-- ---- what a search finds

at_found : (ms : List Entry) (name : Text) (i : ℕ) → i < length ms → ((d : Entry) → cmp (get_or ms i d).0 name ≡ Equal) → StandsAt (names_of ms) i name
at_found (m ∷ ms) name zero l is = sym (same_name m.0 name (is m))
at_found (m ∷ ms) name (suc i) l is = at_found ms name i (omega arith) is
at_found [] name i l is = absurd (omega arith)

-- a member to read at, where there is one
some_entry : (ms : List Entry) (k : ℕ) (other : Text) → StandsAt (names_of ms) k other → Entry
some_entry (m ∷ ms) k other h = m
some_entry [] k other h = elim h [ ]

pub found : (ms : List Entry) (name : Text) (r : Result ℕ ℕ) → Ascend (names_of ms) → IsSearchInRange r (length ms) → IsBinarySearchResult (λ (m : Entry). cmp m.0 name) ms r
    → MatchResult r (λ i. StandsAt (names_of ms) i name) (IsNameGap (names_of ms) name)
found ms name (Ok i) o within is = at_found ms name i within is
found ms name (Err i) o within is =
    let parted = is (searchable_from_sorted order (λ (m : Entry). m.0) ms name (sorted ms o)) in
    record {
      within = rw (length-names ms) within;
      before = λ k other at low.
          let d = some_entry ms k other at in
          subst (λ a. IsBefore a name) (name_there ms k other d at) (parted.0 k d (omega arith) low);
      after = λ k other at high.
          let d = some_entry ms k other at in
          before_after other name (subst (λ a. cmp a name ≡ Greater) (name_there ms k other d at) (parted.1 k d high (rw (sym (length-names ms)) (At-below (names_of ms) k other at))));
    }

-- ---- a name behind the last

pub behind_last : (o : Ordering) → (ordering_index o == 0) ≡ true → o ≡ Less
behind_last o e = is_less o (is_lt_index o ∙ e)

name_got : (ms : List Entry) (k : ℕ) (e : Entry) → slice_get ms k ≡ Some e → StandsAt (names_of ms) k e.0
name_got [] k e h = cc
name_got (m ∷ ms) zero e h = let same : m ≡ e = cc in ap (λ (x : Entry). x.0) (sym same)
name_got (m ∷ ms) (suc k) e h = name_got ms k e h

below_or_last : (k n : ℕ) → k < n → (k < n - 1) ⊎ (k ≡ n - 1)
below_or_last k n l = grind arith

pub behind_all : (ms : List Entry) (name : Text) (last : Entry) → Ascend (names_of ms) → slice_get ms (length ms - 1) ≡ Some last → IsBefore last.0 name → IsNameGap (names_of ms) name (length ms)
behind_all ms name last o is before = record {
  within = let e = length-names ms in omega (arith, e);
  before = λ k other at low. go k other at (below_or_last k (length ms) low);
  after = λ k other at high. let b = At-below (names_of ms) k other at in let e = length-names ms in absurd (omega (arith, b, e));
}
  where
    end : StandsAt (names_of ms) (length ms - 1) last.0
    end = name_got ms (length ms - 1) last is

    go : (k : ℕ) (other : Text) → StandsAt (names_of ms) k other → (k < length ms - 1) ⊎ (k ≡ length ms - 1) → IsBefore other name
    go k other at (inl l) = (order).trans other last.0 name (ascends (names_of ms) k (length ms - 1) other last.0 o l at end) before
    go k other at (inr e) =
        let same : other ≡ last.0 = At-same (names_of ms) (length ms - 1) other last.0 (subst (λ n. StandsAt (names_of ms) n other) e at) end in
        subst (λ a. IsBefore a name) (sym same) before

-- ---- what is put at a place

set_here : (m : Entry) (ms : List Entry) (name : Text) (i : Option ℕ) (t : Marked) → cmp m.0 name ≡ Equal
    → marked_member name i (marked_of t) (marked_members_of ms) ≡ marked_inserted (marked_members_of (m ∷ ms)) name i (marked_of t)
set_here m ms name i t e = rw e refl

set_before : (m : Entry) (ms : List Entry) (name : Text) (i : Option ℕ) (t : Marked) → cmp m.0 name ≡ Greater
    → marked_member name i (marked_of t) (marked_members_of (m ∷ ms)) ≡ marked_inserted (marked_members_of (m ∷ ms)) name i (marked_of t)
set_before m ms name i t e = rw e refl

set_later : (m : Entry) (ms : List Entry) (name : Text) (i : Option ℕ) (t : Marked) (rest : MarkedMembers) → cmp m.0 name ≡ Less → rest ≡ marked_inserted (marked_members_of ms) name i (marked_of t)
    → marked_member m.0 m.1 (marked_of m.2) rest ≡ marked_inserted (marked_members_of (m ∷ ms)) name i (marked_of t)
set_later m ms name i t rest e ih = rw e (ap (marked_member m.0 m.1 (marked_of m.2)) ih)

pub set_at : (ms : List Entry) (name : Text) (i : Option ℕ) (t : Marked) (n : ℕ) → Ascend (names_of ms) → StandsAt (names_of ms) n name
    → marked_members_of (set ms n (name, i, t)) ≡ marked_inserted (marked_members_of ms) name i (marked_of t)
set_at (m ∷ ms) name i t zero o h = set_here m ms name i t (subst (λ a. cmp m.0 a ≡ Equal) (sym h) (tied_itself order m.0))
set_at (m ∷ ms) name i t (suc n) o h =
    set_later m ms name i t (marked_members_of (set ms n (name, i, t))) (before_at m.0 (names_of ms) n name o.0 h) (set_at ms name i t n o.1 h)
set_at [] name i t n o h = elim h [ ]

gap_inside : (m : Entry) (ms : List Entry) (name : Text) (n : ℕ) → IsNameGap (names_of (m ∷ ms)) name (suc n) → IsNameGap (names_of ms) name n
gap_inside m ms name n g = record {
  within = let w = g.within in omega (arith, w);
  before = λ k other at l. g.before (suc k) other at (omega arith);
  after = λ k other at l. g.after (suc k) other at (omega arith);
}

pub insert_at : (ms : List Entry) (name : Text) (i : Option ℕ) (t : Marked) (n : ℕ) → IsNameGap (names_of ms) name n
    → marked_members_of (insert ms n (name, i, t)) ≡ marked_inserted (marked_members_of ms) name i (marked_of t)
insert_at [] name i t zero g = refl
insert_at [] name i t (suc n) g = absurd (let w = g.within in omega arith)
insert_at (m ∷ ms) name i t zero g = set_before m ms name i t (turned_back name m.0 (g.after 0 m.0 refl (omega arith)))
insert_at (m ∷ ms) name i t (suc n) g =
    set_later m ms name i t (marked_members_of (insert ms n (name, i, t))) (g.before 0 m.0 refl (omega arith)) (insert_at ms name i t n (gap_inside m ms name n g))

-- ---- the same unless the name is there

put_here : (m : Entry) (ms : List Entry) (name : Text) (i : Option ℕ) (t : Marked) → cmp name m.0 ≡ Equal
    → put name i (marked_of t) (marked_members_of (m ∷ ms)) ≡ marked_members_of (m ∷ ms)
put_here m ms name i t e = rw e refl

put_before : (m : Entry) (ms : List Entry) (name : Text) (i : Option ℕ) (t : Marked) → cmp name m.0 ≡ Less
    → marked_member name i (marked_of t) (marked_members_of (m ∷ ms)) ≡ put name i (marked_of t) (marked_members_of (m ∷ ms))
put_before m ms name i t e = rw e refl

put_later : (m : Entry) (ms : List Entry) (name : Text) (i : Option ℕ) (t : Marked) (rest : MarkedMembers) → cmp name m.0 ≡ Greater → rest ≡ put name i (marked_of t) (marked_members_of ms)
    → marked_member m.0 m.1 (marked_of m.2) rest ≡ put name i (marked_of t) (marked_members_of (m ∷ ms))
put_later m ms name i t rest e ih = rw e (ap (marked_member m.0 m.1 (marked_of m.2)) ih)

pub put_there : (ms : List Entry) (name : Text) (i : Option ℕ) (t : Marked) (n : ℕ) → Ascend (names_of ms) → StandsAt (names_of ms) n name
    → put name i (marked_of t) (marked_members_of ms) ≡ marked_members_of ms
put_there (m ∷ ms) name i t zero o h = put_here m ms name i t (subst (λ a. cmp a m.0 ≡ Equal) (sym h) (tied_itself order m.0))
put_there (m ∷ ms) name i t (suc n) o h =
    sym (put_later m ms name i t (marked_members_of ms) (turned_back m.0 name (before_at m.0 (names_of ms) n name o.0 h)) (sym (put_there ms name i t n o.1 h)))
put_there [] name i t n o h = elim h [ ]

pub put_gap : (ms : List Entry) (name : Text) (i : Option ℕ) (t : Marked) (n : ℕ) → IsNameGap (names_of ms) name n
    → marked_members_of (insert ms n (name, i, t)) ≡ put name i (marked_of t) (marked_members_of ms)
put_gap [] name i t zero g = refl
put_gap [] name i t (suc n) g = absurd (let w = g.within in omega arith)
put_gap (m ∷ ms) name i t zero g = put_before m ms name i t (g.after 0 m.0 refl (omega arith))
put_gap (m ∷ ms) name i t (suc n) g =
    put_later m ms name i t (marked_members_of (insert ms n (name, i, t))) (turned_back m.0 name (g.before 0 m.0 refl (omega arith))) (put_gap ms name i t n (gap_inside m ms name n g))

-- ---- the order stays

pub strip-inserted : (ms : MarkedMembers) (name : Text) (i : Option ℕ) (t : spec.Marked) → strip_members (marked_inserted ms name i t) ≡ inserted (strip_members ms) name (strip t)
strip-inserted no_marked_members name i t = refl
strip-inserted (marked_member other j u ms) name i t = go (cmp other name) (strip-inserted ms name i t)
  where
    go : (o : Ordering) → strip_members (marked_inserted ms name i t) ≡ inserted (strip_members ms) name (strip t)
        → strip_members (match_ordering o (marked_member other j u (marked_inserted ms name i t)) (marked_member name i t ms) (marked_member name i t (marked_member other j u ms)))
        ≡ match_ordering o (member other (strip u) (inserted (strip_members ms) name (strip t))) (member name (strip t) (strip_members ms)) (member name (strip t) (member other (strip u) (strip_members ms)))
    go Less ih = ap (member other (strip u)) ih
    go Equal ih = refl
    go Greater ih = refl

pub ordered-marked_inserted : (ms : MarkedMembers) (name : Text) (i : Option ℕ) (t : spec.Marked) → MembersOrdered (strip_members ms) → IsOrdered (strip t) → MembersOrdered (strip_members (marked_inserted ms name i t))
ordered-marked_inserted ms name i t o p = subst MembersOrdered (sym (strip-inserted ms name i t)) (ordered-inserted (strip_members ms) name (strip t) o p)

abbrev pub put_by : Ordering → Text → Option ℕ → spec.Marked → Text → Option ℕ → spec.Marked → MarkedMembers → MarkedMembers → MarkedMembers
put_by o name i t other j u ms rest = match_ordering o (marked_member name i t (marked_member other j u ms)) (marked_member other j u ms) (marked_member other j u rest)

before_put : (k name : Text) (i : Option ℕ) (t : spec.Marked) (ms : MarkedMembers) → IsBefore k name → IsBeforeAll k (names (strip_members ms)) → IsBeforeAll k (names (strip_members (put name i t ms)))
before_put k name i t no_marked_members b all = (b, tt)
before_put k name i t (marked_member other j u ms) b all = go (cmp name other) (before_put k name i t ms b all.1)
  where
    go : (o : Ordering) → IsBeforeAll k (names (strip_members (put name i t ms))) → IsBeforeAll k (names (strip_members (put_by o name i t other j u ms (put name i t ms))))
    go Less ih = (b, all)
    go Equal ih = all
    go Greater ih = (all.0, ih)

pub ordered-put : (name : Text) (i : Option ℕ) (t : spec.Marked) (ms : MarkedMembers) → MembersOrdered (strip_members ms) → IsOrdered (strip t) → MembersOrdered (strip_members (put name i t ms))
ordered-put name i t no_marked_members o p = (tt, p, tt)
ordered-put name i t (marked_member other j u ms) o p = go (cmp name other) refl (ordered-put name i t ms o.2 p)
  where
    go : (r : Ordering) → cmp name other ≡ r → MembersOrdered (strip_members (put name i t ms)) → MembersOrdered (strip_members (put_by r name i t other j u ms (put name i t ms)))
    go Less e ih = ((e, before_through name other (names (strip_members ms)) e o.0), p, o)
    go Equal e ih = o
    go Greater e ih = (before_put other name i t ms (before_after name other e) o.0, o.1, ih)

-- ---- from the end on

-- a member in front of those that ascend, whose name is before that of the next
pub ordered_from : (ms : List Entry) (k : ℕ) (d : Entry) → k < length ms → MembersOrdered (strip_members (marked_members_of (drop (suc k) ms))) → IsOrdered (strip (marked_of (get_or ms k d).2)) → (suc k < length ms → IsBefore (get_or ms k d).0 (get_or ms (suc k) d).0) → MembersOrdered (strip_members (marked_members_of (drop k ms)))
ordered_from [] k d l inv o b = absurd (omega arith)
ordered_from (m ∷ []) zero d l inv o b = (tt, o, tt)
ordered_from (m ∷ n ∷ ms) zero d l inv o b = let first = b (omega arith) in ((first, before_through m.0 n.0 (names (strip_members (marked_members_of ms))) first inv.0), o, inv)
ordered_from (m ∷ ms) (suc k) d l inv o b = ordered_from ms k d (omega arith) inv o (λ w. b (omega (arith, w)))

-- Members that ascend: where a name stands among them, and what is put there.
use Rattle.std.proofs.Common.{◌≡◌, ◌⊎◌, inl, inr, ℕ, zero, suc, ◌+◌, ◌-◌, ◌<◌, ◌≤◌, Bool, true, false, List, [], ◌∷◌, length, set, get_or, Some, None, Ordering, Less, Equal, Greater, nat_cmp, Result, Ok, Err, MatchResult, refl, sym, ap, subst, ◌∙◌, arith}
use Rattle.std.specs.Prelude.{bytes_eq, if◌then◌else◌}
use Rattle.std.specs.List.{insert, remove}
use Rattle.std.specs.List.Sorted.{IsSortedBy, IsSearchInRange, IsBinarySearchResult}
use Rattle.std.specs.Ordering.{match_ordering, is_lt, is_eq, ordering_reverse}
use Rattle.std.specs.Cmp.{IsTotalOrder}
use Rattle.std.specs.Cmp.Lexicographic.{slice_cmp, nat_list_cmp_total}
use Rattle.std.proofs.lemmas.Bool.{cases_lt}
use Rattle.std.proofs.lemmas.Map.Text.{is_eq-slice_cmp}
use Rattle.std.proofs.lemmas.Slice.Eq.{bytes_eq-Decides}
use Rattle.std.proofs.lemmas.List.Sorted.{searchable_from_sorted}
use Rattle.claim_tree.specs.Tree as spec
use Rattle.claim_tree.specs.Tree.{Text, Members, member, no_members, names, IsBefore, IsBeforeAll, IsOrdered, MembersOrdered, inserted, member_named}
use Rattle.claim_tree.specs.Removed.{removed}
use Rattle.claim_tree.specs.declared.tree.Tree.{Tree}
use Rattle.claim_tree.specs.View.{tree_of}
use Rattle.claim_tree.specs.ListViews.{members_of}
use Rattle.claim_tree.specs.MemberPositions.{IsPosition, IsGap}

abbrev pub cmp : Text → Text → Ordering
cmp = slice_cmp nat_cmp

abbrev Entry : Type 0
Entry = Text × Tree

pub order : IsTotalOrder cmp
order = nat_list_cmp_total

-- names that tie are one
pub same_name : (a b : Text) → cmp a b ≡ Equal → a ≡ b
same_name a b e = (bytes_eq-Decides a b).0 (sym (is_eq-slice_cmp a b) ∙ ap is_eq e)

pub before_after : (a b : Text) → cmp a b ≡ Greater → IsBefore b a
before_after a b e = (order).antisymm b a ∙ ap ordering_reverse e

pub after_before : (a b : Text) → cmp a b ≡ Less → cmp b a ≡ Greater
after_before a b e = (order).antisymm b a ∙ ap ordering_reverse e

apart : (a b : Text) (o : Ordering) → cmp a b ≡ o → is_eq o ≡ false → bytes_eq a b ≡ false
apart a b o e n = sym (is_eq-slice_cmp a b) ∙ ap is_eq e ∙ n

-- ---- names at places

before_at : (name : Text) (ms : List Entry) (i : ℕ) (d : Entry) → IsBeforeAll name (names (members_of ms)) → i < length ms → IsBefore name (get_or ms i d).0
before_at name [] i d all l = absurd (omega arith)
before_at name (m ∷ ms) zero d all l = all.0
before_at name (m ∷ ms) (suc i) d all l = before_at name ms i d all.1 (omega arith)

ascends : (ms : List Entry) (i j : ℕ) (d : Entry) → MembersOrdered (members_of ms) → i < j → j < length ms → IsBefore (get_or ms i d).0 (get_or ms j d).0
ascends [] i j d o l m = absurd (omega arith)
ascends (x ∷ ms) i zero d o l m = absurd (omega arith)
ascends (x ∷ ms) zero (suc j) d o l m = before_at x.0 ms j d o.0 (omega arith)
ascends (x ∷ ms) (suc i) (suc j) d o l m = ascends ms i j d o.2 (omega arith) (omega arith)

sorted : (ms : List Entry) → MembersOrdered (members_of ms) → IsSortedBy (λ (a b : Entry). is_lt (cmp a.0 b.0)) ms
sorted ms o k d l h = ap is_lt (after_before (get_or ms k d).0 (get_or ms (k + 1) d).0 (ascends ms k (k + 1) d o (omega arith) h))

-- what a binary search finds
pub found : (ms : List Entry) (name : Text) (r : Result ℕ ℕ) → MembersOrdered (members_of ms) → IsSearchInRange r (length ms) → IsBinarySearchResult (λ (m : Entry). cmp m.0 name) ms r → MatchResult r (IsPosition ms name) (IsGap ms name)
found ms name (Ok i) o within is = record { within = within; named = is }
found ms name (Err i) o within is =
    let parted = is (searchable_from_sorted order (λ (m : Entry). m.0) ms name (sorted ms o)) in
    record { within = within; before = λ k d l. parted.0 k d (omega arith) l; after = λ k d l h. parted.1 k d l h }

pub is_less : (o : Ordering) → is_lt o ≡ true → o ≡ Less
is_less Less e = refl
is_less Equal e = cc e
is_less Greater e = cc e

pub less_clash : (o : Ordering) → o ≡ Less → is_lt o ≡ false → ⊥
less_clash Less e f = cc f
less_clash Equal e f = cc e
less_clash Greater e f = cc e

before_last : (ms : List Entry) (name : Text) (m : Entry) → MembersOrdered (members_of ms) → ((d : Entry) → m ≡ get_or ms (length ms - 1) d) → cmp m.0 name ≡ Less → (k : ℕ) (d : Entry) → k < length ms → cmp (get_or ms k d).0 name ≡ Less
before_last ms name m o is less k d within =
    let last : cmp (get_or ms (length ms - 1) d).0 name ≡ Less = subst (λ (n : Entry). cmp n.0 name ≡ Less) (is d) less in
    elim (cases_lt k (length ms - 1)) [
      | inl low ↦ (order).trans (get_or ms k d).0 (get_or ms (length ms - 1) d).0 name (ascends ms k (length ms - 1) d o low (omega arith)) last
      | inr high ↦ let here : k ≡ length ms - 1 = omega arith in subst (λ i. cmp (get_or ms i d).0 name ≡ Less) (sym here) last
    ]

-- behind the last member
pub last_gap : (ms : List Entry) (name : Text) (m : Entry) → MembersOrdered (members_of ms) → ((d : Entry) → m ≡ get_or ms (length ms - 1) d) → is_lt (cmp m.0 name) ≡ true → IsGap ms name (length ms)
last_gap ms name m o is behind =
    record { within = omega arith; before = before_last ms name m o is (is_less _ behind); after = λ k d l h. absurd (omega (arith, l, h)) }

-- ---- a name that is there

put_here : (m : Entry) (ms : List Entry) (name : Text) (t : Tree) → cmp m.0 name ≡ Equal → member name (tree_of t) (members_of ms) ≡ inserted (members_of (m ∷ ms)) name (tree_of t)
put_here m ms name t e = rw e refl

put_later : (m : Entry) (ms : List Entry) (name : Text) (t : Tree) (rest : Members) → cmp m.0 name ≡ Less → rest ≡ inserted (members_of ms) name (tree_of t)
    → member m.0 (tree_of m.1) rest ≡ inserted (members_of (m ∷ ms)) name (tree_of t)
put_later m ms name t rest e ih = rw e (ap (member m.0 (tree_of m.1)) ih)

pub set_at : (ms : List Entry) (name : Text) (t : Tree) (i : ℕ) → MembersOrdered (members_of ms) → IsPosition ms name i → members_of (set ms i (name, t)) ≡ inserted (members_of ms) name (tree_of t)
set_at [] name t i o p = absurd (let w = p.within in omega arith)
set_at (m ∷ ms) name t zero o p = put_here m ms name t (p.named m)
set_at (m ∷ ms) name t (suc i) o p =
    let w = p.within in
    let here : i < length ms = omega arith in
    let there : (get_or ms i m).0 ≡ name = same_name (get_or ms i m).0 name (p.named m) in
    let first : cmp m.0 name ≡ Less = ap (cmp m.0) (sym there) ∙ before_at m.0 ms i m o.0 here in
    put_later m ms name t (members_of (set ms i (name, t))) first (set_at ms name t i o.2 (record { within = here; named = p.named }))

-- ---- a name that is not there

put_before : (m : Entry) (ms : List Entry) (name : Text) (t : Tree) → cmp m.0 name ≡ Greater → member name (tree_of t) (members_of (m ∷ ms)) ≡ inserted (members_of (m ∷ ms)) name (tree_of t)
put_before m ms name t e = rw e refl

pub insert_at : (ms : List Entry) (name : Text) (t : Tree) (i : ℕ) → IsGap ms name i → members_of (insert ms i (name, t)) ≡ inserted (members_of ms) name (tree_of t)
insert_at [] name t zero g = refl
insert_at [] name t (suc i) g = absurd (let w = g.within in omega arith)
insert_at (m ∷ ms) name t zero g = put_before m ms name t (g.after 0 m (omega arith) (omega arith))
insert_at (m ∷ ms) name t (suc i) g =
    let w = g.within in
    put_later m ms name t (members_of (insert ms i (name, t))) (g.before 0 m (omega arith))
    (insert_at ms name t i (record { within = omega arith; before = λ k d l. g.before (suc k) d (omega arith); after = λ k d l h. g.after (suc k) d (omega arith) (omega arith) }))

-- ---- the order stays

before_one : (o : Ordering) (k other : Text) (u : spec.Tree) (ms : Members) (name : Text) (t : spec.Tree) (rest : Members) → IsBefore k name → IsBefore k other → IsBeforeAll k (names ms) → IsBeforeAll k (names rest)
    → IsBeforeAll k (names (match_ordering o (member other u rest) (member name t ms) (member name t (member other u ms))))
before_one Less k other u ms name t rest b c all ih = (c, ih)
before_one Equal k other u ms name t rest b c all ih = (b, all)
before_one Greater k other u ms name t rest b c all ih = (b, (c, all))

before_inserted : (k : Text) (ms : Members) (name : Text) (t : spec.Tree) → IsBefore k name → IsBeforeAll k (names ms) → IsBeforeAll k (names (inserted ms name t))
before_inserted k no_members name t b all = (b, tt)
before_inserted k (member other u ms) name t b all = before_one (cmp other name) k other u ms name t (inserted ms name t) b all.0 all.1 (before_inserted k ms name t b all.1)

pub before_through : (a b : Text) (ns : List Text) → IsBefore a b → IsBeforeAll b ns → IsBeforeAll a ns
before_through a b [] l all = tt
before_through a b (n ∷ ns) l all = ((order).trans a b n l all.0, before_through a b ns l all.1)

ordered_one : (r : Ordering) (other : Text) (u : spec.Tree) (ms : Members) (name : Text) (t : spec.Tree) → cmp other name ≡ r → MembersOrdered (member other u ms) → IsOrdered t → MembersOrdered (inserted ms name t)
    → MembersOrdered (match_ordering r (member other u (inserted ms name t)) (member name t ms) (member name t (member other u ms)))
ordered_one Less other u ms name t e o p ih = (before_inserted other ms name t e o.0, o.1, ih)
ordered_one Equal other u ms name t e o p ih = (subst (λ (n : Text). IsBeforeAll n (names ms)) (same_name other name e) o.0, p, o.2)
ordered_one Greater other u ms name t e o p ih = let b = before_after other name e in ((b, before_through name other (names ms) b o.0), p, o)

pub ordered-inserted : (ms : Members) (name : Text) (t : spec.Tree) → MembersOrdered ms → IsOrdered t → MembersOrdered (inserted ms name t)
ordered-inserted no_members name t o p = (tt, p, tt)
ordered-inserted (member other u ms) name t o p = ordered_one (cmp other name) other u ms name t refl o p (ordered-inserted ms name t o.2 p)

-- ---- the look-up

pub named_at : (ms : List Entry) (name : Text) (i : ℕ) (d : Entry) → MembersOrdered (members_of ms) → IsPosition ms name i → member_named (members_of ms) name ≡ Some (tree_of (get_or ms i d).1)
named_at [] name i d o p = absurd (let w = p.within in omega arith)
named_at (m ∷ ms) name zero d o p = let e : bytes_eq m.0 name ≡ true = sym (is_eq-slice_cmp m.0 name) ∙ ap is_eq (p.named m) in rw e refl
named_at (m ∷ ms) name (suc i) d o p =
    let w = p.within in
    let here : i < length ms = omega arith in
    let there : (get_or ms i m).0 ≡ name = same_name (get_or ms i m).0 name (p.named m) in
    let first : cmp m.0 name ≡ Less = ap (cmp m.0) (sym there) ∙ before_at m.0 ms i m o.0 here in
    rw (apart m.0 name Less first refl) (named_at ms name i d o.2 (record { within = here; named = p.named }))

none_named : (ms : List Entry) (name : Text) → ((k : ℕ) (d : Entry) → k < length ms → bytes_eq (get_or ms k d).0 name ≡ false) → member_named (members_of ms) name ≡ None
none_named [] name h = refl
none_named (m ∷ ms) name h = rw (h 0 m (omega arith)) (none_named ms name (λ k d l. h (suc k) d (omega arith)))

at_gap : (ms : List Entry) (name : Text) (i : ℕ) → IsGap ms name i → (k : ℕ) (d : Entry) → k < length ms → (k < i) ⊎ (i ≤ k) → bytes_eq (get_or ms k d).0 name ≡ false
at_gap ms name i g k d l (inl low) = apart (get_or ms k d).0 name Less (g.before k d low) refl
at_gap ms name i g k d l (inr high) = apart (get_or ms k d).0 name Greater (g.after k d high l) refl

pub named_gap : (ms : List Entry) (name : Text) (i : ℕ) → IsGap ms name i → member_named (members_of ms) name ≡ None
named_gap ms name i g = none_named ms name (λ k d l. at_gap ms name i g k d l (cases_lt k i))

-- ---- a name that is taken out

behind_removed : (name : Text) (ms : Members) → IsBeforeAll name (names ms) → removed ms name ≡ ms
behind_removed name no_members all = refl
behind_removed name (member other t ms) all = rw (apart other name Greater (after_before name other all.0) refl) (ap (member other t) (behind_removed name ms all.1))

pub remove_at : (ms : List Entry) (name : Text) (i : ℕ) → MembersOrdered (members_of ms) → IsPosition ms name i → members_of (remove ms i) ≡ removed (members_of ms) name
remove_at [] name i o p = absurd (let w = p.within in omega arith)
remove_at (m ∷ ms) name zero o p =
    let same : m.0 ≡ name = same_name m.0 name (p.named m) in
    let e : bytes_eq m.0 name ≡ true = sym (is_eq-slice_cmp m.0 name) ∙ ap is_eq (p.named m) in
    rw e (sym (behind_removed name (members_of ms) (subst (λ (n : Text). IsBeforeAll n (names (members_of ms))) same o.0)))
remove_at (m ∷ ms) name (suc i) o p =
    let w = p.within in
    let here : i < length ms = omega arith in
    let there : (get_or ms i m).0 ≡ name = same_name (get_or ms i m).0 name (p.named m) in
    let first : cmp m.0 name ≡ Less = ap (cmp m.0) (sym there) ∙ before_at m.0 ms i m o.0 here in
    rw (apart m.0 name Less first refl) (ap (member m.0 (tree_of m.1)) (remove_at ms name i o.2 (record { within = here; named = p.named })))

none_removed : (ms : List Entry) (name : Text) → ((k : ℕ) (d : Entry) → k < length ms → bytes_eq (get_or ms k d).0 name ≡ false) → members_of ms ≡ removed (members_of ms) name
none_removed [] name h = refl
none_removed (m ∷ ms) name h = rw (h 0 m (omega arith)) (ap (member m.0 (tree_of m.1)) (none_removed ms name (λ k d l. h (suc k) d (omega arith))))

pub removed_gap : (ms : List Entry) (name : Text) (i : ℕ) → IsGap ms name i → members_of ms ≡ removed (members_of ms) name
removed_gap ms name i g = none_removed ms name (λ k d l. at_gap ms name i g k d l (cases_lt k i))

-- what holds of both ways of a choice holds of what is chosen
pub of_either : (P : Members → Type 0) (b : Bool) (one other : Members) → P one → P other → P (if b then one else other)
of_either P true one other p q = p
of_either P false one other p q = q

before_removed : (k : Text) (ms : Members) (name : Text) → IsBeforeAll k (names ms) → IsBeforeAll k (names (removed ms name))
before_removed k no_members name all = tt
before_removed k (member other t ms) name all = let ih = before_removed k ms name all.1 in of_either (λ ns. IsBeforeAll k (names ns)) (bytes_eq other name) _ _ ih (all.0, ih)

pub ordered-removed : (ms : Members) (name : Text) → MembersOrdered ms → MembersOrdered (removed ms name)
ordered-removed no_members name o = tt
ordered-removed (member other t ms) name o = let ih = ordered-removed ms name o.2 in of_either MembersOrdered (bytes_eq other name) _ _ ih (before_removed other ms name o.0, o.1, ih)

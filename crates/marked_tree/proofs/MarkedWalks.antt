-- The elements and members of a slice, one by one.
use Rattle.std.proofs.Common.{◌≡◌, ℕ, zero, suc, ◌+◌, ◌<◌, ◌≤◌, List, [], ◌∷◌, ◌++◌, length, get_or, take, Bool, true, false, cond, Option, Some, None, is_some, option_map, add-one, refl, sym, ap, subst, ◌∙◌, arith}
use Rattle.claim_tree.specs.Tree.{Text, element, member, depth, elements_depth, members_depth, inserted, IsBefore, IsBeforeAll, MembersOrdered}
use Rattle.claim_tree.specs.TreeCalls.{pushed}
use Rattle.claim_tree.specs.Nodes.{elements_size, members_size}
use Rattle.claim_tree.proofs.Walks.{within_total}
use Rattle.marked_tree.specs.Falls.{deep-le}
use Rattle.marked_tree.specs.Marked as spec
use Rattle.marked_tree.specs.Marked.{MarkedElements, marked_element, MarkedMembers, no_marked_members, strip, strip_elements, strip_members, put, remark, remark_elements, remark_members, new_mark, kept, keep_element, keep_member}
use Rattle.marked_tree.specs.MarkedCalls.{marked_pushed}
use Rattle.marked_tree.specs.declared.marked.MarkedList.TheDeep.{deep-Marked}
use Rattle.marked_tree.specs.View.{marked_of, marked_elements_of, marked_members_of}
use Rattle.marked_tree.proofs.MarkedViews.{Element, Entry, strip-pushed}
use Rattle.marked_tree.proofs.Names.{Ascend, names_of, ascend, turned_back}

-- ---- a call that goes into each tree of a slice: its measure is below that of the list, and it nests no deeper

elements_grow : (e : Element) (es : List Element) → (deep-Marked e.1 < elements_size (strip_elements (marked_elements_of (e ∷ es)))) × (elements_size (strip_elements (marked_elements_of es)) ≤ elements_size (strip_elements (marked_elements_of (e ∷ es))))
elements_grow e es = (omega (arith, deep-le e.1), omega arith)

elements_nest : (e : Element) (es : List Element) → (depth (strip (marked_of e.1)) ≤ elements_depth (strip_elements (marked_elements_of (e ∷ es)))) × (elements_depth (strip_elements (marked_elements_of es)) ≤ elements_depth (strip_elements (marked_elements_of (e ∷ es))))
elements_nest e es = (omega arith, omega arith)

members_grow : (m : Entry) (ms : List Entry) → (deep-Marked m.2 < members_size (strip_members (marked_members_of (m ∷ ms)))) × (members_size (strip_members (marked_members_of ms)) ≤ members_size (strip_members (marked_members_of (m ∷ ms))))
members_grow m ms = (omega (arith, deep-le m.2), omega arith)

members_nest : (m : Entry) (ms : List Entry) → (depth (strip (marked_of m.2)) ≤ members_depth (strip_members (marked_members_of (m ∷ ms)))) × (members_depth (strip_members (marked_members_of ms)) ≤ members_depth (strip_members (marked_members_of (m ∷ ms))))
members_nest m ms = (omega arith, omega arith)

pub element_falls : (es : List Element) (n : ℕ) (d : Element) → n < length es → deep-Marked (get_or es n d).1 < elements_size (strip_elements (marked_elements_of es))
element_falls = within_total (λ e. suc (deep-Marked e.1)) (λ es. elements_size (strip_elements (marked_elements_of es))) elements_grow

pub element_lower : (es : List Element) (n : ℕ) (d : Element) → n < length es → depth (strip (marked_of (get_or es n d).1)) ≤ elements_depth (strip_elements (marked_elements_of es))
element_lower = within_total (λ e. depth (strip (marked_of e.1))) (λ es. elements_depth (strip_elements (marked_elements_of es))) elements_nest

pub member_falls : (ms : List Entry) (n : ℕ) (d : Entry) → n < length ms → deep-Marked (get_or ms n d).2 < members_size (strip_members (marked_members_of ms))
member_falls = within_total (λ m. suc (deep-Marked m.2)) (λ ms. members_size (strip_members (marked_members_of ms))) members_grow

pub member_lower : (ms : List Entry) (n : ℕ) (d : Entry) → n < length ms → depth (strip (marked_of (get_or ms n d).2)) ≤ members_depth (strip_members (marked_members_of ms))
member_lower = within_total (λ m. depth (strip (marked_of m.2))) (λ ms. members_depth (strip_members (marked_members_of ms))) members_nest

pub ruleset into_element = (element_falls, element_lower)

pub ruleset into_member = (member_falls, member_lower)

-- ---- one element more

element_more : (es : List Element) (n : ℕ) (d : Element) → n < length es → marked_elements_of (take (suc n) es) ≡ marked_pushed (marked_elements_of (take n es)) (get_or es n d).0 (marked_of (get_or es n d).1)
element_more [] n d within = absurd (omega arith)
element_more (e ∷ es) zero d within = refl
element_more (e ∷ es) (suc n) d within = ap (marked_element e.0 (marked_of e.1)) (element_more es n d (omega arith))

element_turn : (es : List Element) (n : ℕ) (d : Element) → n < length es → marked_elements_of (take (n + 1) es) ≡ marked_pushed (marked_elements_of (take n es)) (get_or es n d).0 (marked_of (get_or es n d).1)
element_turn es n d within = rw add-one (element_more es n d within)

pub stripped_turn : (es : List Element) (n : ℕ) (d : Element) → n < length es
    → strip_elements (marked_elements_of (take (n + 1) es)) ≡ pushed (strip_elements (marked_elements_of (take n es))) (strip (marked_of (get_or es n d).1))
stripped_turn es n d within = ap strip_elements (element_turn es n d within) ∙ strip-pushed (marked_elements_of (take n es)) (get_or es n d).0 (marked_of (get_or es n d).1)

-- the elements with one more where it is kept
abbrev kept_pushed : MarkedElements → Option (Option ℕ) → spec.Marked → MarkedElements
kept_pushed es None t = es
kept_pushed es (Some i) t = marked_pushed es i t

remark-pushed : (f : ℕ → Option ℕ) (es : MarkedElements) (i : Option ℕ) (t : spec.Marked) → remark_elements f (marked_pushed es i t) ≡ kept_pushed (remark_elements f es) (new_mark f i) (remark f t)
remark-pushed f spec.no_marked_elements i t = go (new_mark f i)
  where
    go : (o : Option (Option ℕ)) → keep_element o (remark f t) spec.no_marked_elements ≡ kept_pushed spec.no_marked_elements o (remark f t)
    go None = refl
    go (Some j) = refl
remark-pushed f (marked_element j u es) i t = go (new_mark f j) (new_mark f i) (remark-pushed f es i t)
  where
    go : (o q : Option (Option ℕ)) → remark_elements f (marked_pushed es i t) ≡ kept_pushed (remark_elements f es) q (remark f t)
        → keep_element o (remark f u) (remark_elements f (marked_pushed es i t)) ≡ kept_pushed (keep_element o (remark f u) (remark_elements f es)) q (remark f t)
    go None q ih = ih
    go (Some k) None ih = ap (marked_element k (remark f u)) ih
    go (Some k) (Some l) ih = ap (marked_element k (remark f u)) ih

kept_turn : (f : ℕ → Option ℕ) (es : List Element) (n : ℕ) (d : Element) → n < length es
    → remark_elements f (marked_elements_of (take (n + 1) es)) ≡ kept_pushed (remark_elements f (marked_elements_of (take n es))) (new_mark f (get_or es n d).0) (remark f (marked_of (get_or es n d).1))
kept_turn f es n d within = ap (remark_elements f) (element_turn es n d within) ∙ remark-pushed f (marked_elements_of (take n es)) (get_or es n d).0 (marked_of (get_or es n d).1)

-- ---- one member more

before_there : (name : Text) (ms : List Entry) (n : ℕ) (d : Entry) → n < length ms → IsBeforeAll name (names_of ms) → IsBefore name (get_or ms n d).0
before_there name [] n d within h = absurd (omega arith)
before_there name (m ∷ ms) zero d within h = h.0
before_there name (m ∷ ms) (suc n) d within h = before_there name ms n d (omega arith) h.1

stripped_more : (ms : List Entry) (n : ℕ) (d : Entry) → n < length ms → Ascend (names_of ms)
    → strip_members (marked_members_of (take (suc n) ms)) ≡ inserted (strip_members (marked_members_of (take n ms))) (get_or ms n d).0 (strip (marked_of (get_or ms n d).2))
stripped_more [] n d within o = absurd (omega arith)
stripped_more (m ∷ ms) zero d within o = refl
stripped_more (m ∷ ms) (suc n) d within o =
    let rest = stripped_more ms n d (omega arith) o.1 in
    rw (before_there m.0 ms n d (omega arith) o.0) (ap (member m.0 (strip (marked_of m.2))) rest)

pub stripped_member_turn : (ms : List Entry) (n : ℕ) (d : Entry) → n < length ms → MembersOrdered (strip_members (marked_members_of ms))
    → strip_members (marked_members_of (take (n + 1) ms)) ≡ inserted (strip_members (marked_members_of (take n ms))) (get_or ms n d).0 (strip (marked_of (get_or ms n d).2))
stripped_member_turn ms n d within ordered = rw add-one (stripped_more ms n d within (ascend (marked_members_of ms) ordered))

-- the members with one more where it is kept
abbrev kept_put : MarkedMembers → Text → Option (Option ℕ) → spec.Marked → MarkedMembers
kept_put ms name None t = ms
kept_put ms name (Some i) t = put name i t ms

-- a member that comes before is passed over
kept_later : (name : Text) (o : Option (Option ℕ)) (t : spec.Marked) (other : Text) (q : Option (Option ℕ)) (u : spec.Marked) (ms : MarkedMembers) → IsBefore other name
    → keep_member other q u (kept_put ms name o t) ≡ kept_put (keep_member other q u ms) name o t
kept_later name o t other None u ms l = refl
kept_later name None t other (Some j) u ms l = refl
kept_later name (Some i) t other (Some j) u ms l = rw (turned_back other name l) refl

kept_more : (f : ℕ → Option ℕ) (ms : List Entry) (n : ℕ) (d : Entry) → n < length ms → Ascend (names_of ms)
    → remark_members f (marked_members_of (take (suc n) ms)) ≡ kept_put (remark_members f (marked_members_of (take n ms))) (get_or ms n d).0 (new_mark f (get_or ms n d).1) (remark f (marked_of (get_or ms n d).2))
kept_more f [] n d within o = absurd (omega arith)
kept_more f (m ∷ ms) zero d within o = go (new_mark f m.1)
  where
    go : (q : Option (Option ℕ)) → keep_member m.0 q (remark f (marked_of m.2)) no_marked_members ≡ kept_put no_marked_members m.0 q (remark f (marked_of m.2))
    go None = refl
    go (Some j) = refl
kept_more f (m ∷ ms) (suc n) d within o =
    let e = get_or ms n d in
    ap (keep_member m.0 (new_mark f m.1) (remark f (marked_of m.2))) (kept_more f ms n d (omega arith) o.1)
    ∙ kept_later (get_or ms n d).0 (new_mark f (get_or ms n d).1) (remark f (marked_of (get_or ms n d).2)) m.0 (new_mark f m.1) (remark f (marked_of m.2)) (remark_members f (marked_members_of (take n ms)))
    (before_there m.0 ms n d (omega arith) o.0)

kept_member_turn : (f : ℕ → Option ℕ) (ms : List Entry) (n : ℕ) (d : Entry) → n < length ms → MembersOrdered (strip_members (marked_members_of ms))
    → remark_members f (marked_members_of (take (n + 1) ms)) ≡ kept_put (remark_members f (marked_members_of (take n ms))) (get_or ms n d).0 (new_mark f (get_or ms n d).1) (remark f (marked_of (get_or ms n d).2))
kept_member_turn f ms n d within ordered = rw add-one (kept_more f ms n d within (ascend (marked_members_of ms) ordered))

-- ---- among elements and members that are taken by value

taken_within : {A : Type 0} (f : A → ℕ) (total : List A → ℕ) → ((x : A) (xs : List A) → (f x ≤ total (x ∷ xs)) × (total xs ≤ total (x ∷ xs))) → (xs : List A) (e : A) (rest : List A) → f e ≤ total (xs ++ e ∷ rest)
taken_within f total grows [] e rest = (grows e rest).0
taken_within f total grows (x ∷ xs) e rest = let there = taken_within f total grows xs e rest in omega (arith, there, (grows x (xs ++ e ∷ rest)).1)

pub into_taken_element : (xs : List Element) (e : Element) (rest : List Element) (us : MarkedElements) → marked_elements_of (xs ++ e ∷ rest) ≡ us → elements_depth (strip_elements us) ≤ 126
    → (deep-Marked e.1 < elements_size (strip_elements us)) × (depth (strip (marked_of e.1)) ≤ 127)
into_taken_element xs e rest us all =
    subst (λ vs. elements_depth (strip_elements vs) ≤ 126 → (deep-Marked e.1 < elements_size (strip_elements vs)) × (depth (strip (marked_of e.1)) ≤ 127)) all
    (λ low. (taken_within _ _ elements_grow xs e rest, omega (arith, taken_within _ _ elements_nest xs e rest, low)))

pub into_taken_member : (xs : List Entry) (m : Entry) (rest : List Entry) (us : MarkedMembers) → marked_members_of (xs ++ m ∷ rest) ≡ us → members_depth (strip_members us) ≤ 126
    → (deep-Marked m.2 < members_size (strip_members us)) × (depth (strip (marked_of m.2)) ≤ 127)
into_taken_member xs m rest us all =
    subst (λ vs. members_depth (strip_members vs) ≤ 126 → (deep-Marked m.2 < members_size (strip_members vs)) × (depth (strip (marked_of m.2)) ≤ 127)) all
    (λ low. (taken_within _ _ members_grow xs m rest, omega (arith, taken_within _ _ members_nest xs m rest, low)))

pub stripped-taken : (xs : List Element) (e : Element) → strip_elements (marked_elements_of (xs ++ e ∷ [])) ≡ pushed (strip_elements (marked_elements_of xs)) (strip (marked_of e.1))
stripped-taken [] e = refl
stripped-taken (x ∷ xs) e = ap (element (strip (marked_of x.1))) (stripped-taken xs e)

before_taken : (name : Text) (xs : List Entry) (m : Entry) (rest : List Entry) → IsBeforeAll name (names_of (xs ++ m ∷ rest)) → IsBefore name m.0
before_taken name [] m rest all = all.0
before_taken name (x ∷ xs) m rest all = before_taken name xs m rest all.1

inserted-taken : (xs : List Entry) (m : Entry) (rest : List Entry) → Ascend (names_of (xs ++ m ∷ rest))
    → strip_members (marked_members_of (xs ++ m ∷ [])) ≡ inserted (strip_members (marked_members_of xs)) m.0 (strip (marked_of m.2))
inserted-taken [] m rest o = refl
inserted-taken (x ∷ xs) m rest o =
    let more = inserted-taken xs m rest o.1 in
    rw (before_taken x.0 xs m rest o.0) (ap (member x.0 (strip (marked_of x.2))) more)

pub stripped_member-taken : (xs : List Entry) (m : Entry) (rest : List Entry) → MembersOrdered (strip_members (marked_members_of (xs ++ m ∷ rest)))
    → strip_members (marked_members_of (xs ++ m ∷ [])) ≡ inserted (strip_members (marked_members_of xs)) m.0 (strip (marked_of m.2))
stripped_member-taken xs m rest o = inserted-taken xs m rest (ascend (marked_members_of (xs ++ m ∷ rest)) o)

-- ---- what stays

kept_is : (s : ℕ → Bool) (i : Option ℕ) → is_some (new_mark (kept s) i) ≡ true → new_mark (kept s) i ≡ Some i
kept_is s None e = refl
kept_is s (Some i) e = go (s i) e
  where
    go : (b : Bool) → is_some (option_map (λ (j : ℕ). Some j) (cond b (Some i) None)) ≡ true → option_map (λ (j : ℕ). Some j) (cond b (Some i) None) ≡ Some (Some i)
    go true f = refl
    go false f = cc

left_out_is : (s : ℕ → Bool) (i : Option ℕ) → is_some (new_mark (kept s) i) ≡ false → new_mark (kept s) i ≡ None
left_out_is s i e = go (new_mark (kept s) i) e
  where
    go : (o : Option (Option ℕ)) → is_some o ≡ false → o ≡ None
    go None f = refl
    go (Some x) f = cc

-- ---- what a walk cites that strips each tree

pub ruleset strips_element = (element_falls, element_lower, stripped_turn)

pub ruleset strips_member = (member_falls, member_lower, stripped_member_turn)

-- ---- and that leaves some out

pub stays_turn : (s : ℕ → Bool) (es : List Element) (n : ℕ) (e : Element) → n < length es → e ≡ get_or es n e → is_some (new_mark (kept s) e.0) ≡ true
    → remark_elements (kept s) (marked_elements_of (take (n + 1) es)) ≡ marked_pushed (remark_elements (kept s) (marked_elements_of (take n es))) e.0 (remark (kept s) (marked_of e.1))
stays_turn s es n e within is stays =
    let front = remark_elements (kept s) (marked_elements_of (take n es)) in
    kept_turn (kept s) es n e within
    ∙ ap (λ (x : Element). kept_pushed front (new_mark (kept s) x.0) (remark (kept s) (marked_of x.1))) (sym is)
    ∙ ap (λ o. kept_pushed front o (remark (kept s) (marked_of e.1))) (kept_is s e.0 stays)

pub leaves_turn : (s : ℕ → Bool) (es : List Element) (n : ℕ) (d : Element) → n < length es → is_some (new_mark (kept s) (get_or es n d).0) ≡ false
    → remark_elements (kept s) (marked_elements_of (take (n + 1) es)) ≡ remark_elements (kept s) (marked_elements_of (take n es))
leaves_turn s es n d within leaves =
    kept_turn (kept s) es n d within ∙ ap (λ o. kept_pushed (remark_elements (kept s) (marked_elements_of (take n es))) o (remark (kept s) (marked_of (get_or es n d).1))) (left_out_is s (get_or es n d).0 leaves)

pub stays_member_turn : (s : ℕ → Bool) (ms : List Entry) (n : ℕ) (m : Entry) → n < length ms → m ≡ get_or ms n m → MembersOrdered (strip_members (marked_members_of ms)) → is_some (new_mark (kept s) m.1) ≡ true
    → remark_members (kept s) (marked_members_of (take (n + 1) ms)) ≡ put m.0 m.1 (remark (kept s) (marked_of m.2)) (remark_members (kept s) (marked_members_of (take n ms)))
stays_member_turn s ms n m within is ordered stays =
    let front = remark_members (kept s) (marked_members_of (take n ms)) in
    kept_member_turn (kept s) ms n m within ordered
    ∙ ap (λ (x : Entry). kept_put front x.0 (new_mark (kept s) x.1) (remark (kept s) (marked_of x.2))) (sym is)
    ∙ ap (λ o. kept_put front m.0 o (remark (kept s) (marked_of m.2))) (kept_is s m.1 stays)

pub leaves_member_turn : (s : ℕ → Bool) (ms : List Entry) (n : ℕ) (d : Entry) → n < length ms → MembersOrdered (strip_members (marked_members_of ms)) → is_some (new_mark (kept s) (get_or ms n d).1) ≡ false
    → remark_members (kept s) (marked_members_of (take (n + 1) ms)) ≡ remark_members (kept s) (marked_members_of (take n ms))
leaves_member_turn s ms n d within ordered leaves =
    kept_member_turn (kept s) ms n d within ordered
    ∙ ap (λ o. kept_put (remark_members (kept s) (marked_members_of (take n ms))) (get_or ms n d).0 o (remark (kept s) (marked_of (get_or ms n d).2))) (left_out_is s (get_or ms n d).1 leaves)

pub ruleset prunes_element = (element_falls, element_lower, leaves_turn)

pub ruleset prunes_member = (member_falls, member_lower, leaves_member_turn)

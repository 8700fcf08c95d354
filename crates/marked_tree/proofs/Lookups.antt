-- Members that are put in turn: what stands under each name, and that a stable sort changes nothing.
use Rattle.std.proofs.Common.{◌≡◌, ℕ, List, [], ◌∷◌, ◌++◌, Bool, true, false, cond, ◌&&◌, Option, Some, None, Ordering, Less, Equal, Greater, refl, sym, ap, subst, ◌∙◌}
use Rattle.std.specs.Prelude.{bytes_eq, not}
use Rattle.std.specs.List.{filter}
use Rattle.std.specs.List.Sorted.{IsStableBy, ties}
use Rattle.std.specs.Ordering.{is_lt, is_eq}
use Rattle.std.proofs.lemmas.Map.Text.{is_eq-slice_cmp}
use Rattle.claim_tree.specs.Tree.{Text, IsBefore, IsBeforeAll}
use Rattle.sd_outside.proofs.Lists.{bytes_same, bytes_refl, pair_same}
use Rattle.marked_tree.specs.Marked as spec
use Rattle.marked_tree.specs.Marked.{MarkedMembers, marked_member, no_marked_members, put}
use Rattle.marked_tree.specs.MarkedCalls.{marked_names, put_all}
use Rattle.marked_tree.specs.Steps.{marked_member_named}
use Rattle.marked_tree.specs.declared.marked.Marked.{Marked}
use Rattle.marked_tree.specs.View.{marked_of, marked_members_of}
use Rattle.marked_tree.proofs.MarkedViews.{Entry}
use Rattle.claim_tree.proofs.MapPlaces.{cmp, before_after, before_through, same_name}
use Rattle.marked_tree.proofs.Names.{Ascend, names_of, put_by, turned_back, tie_turned}

abbrev Found : Type 0
Found = Option (Option ℕ × spec.Marked)

-- what the first member with the name has
abbrev pub first_named : Text → MarkedMembers → Found
first_named name ms = marked_member_named ms name

abbrev or_else : Found → Found → Found
or_else None more = more
or_else (Some x) more = Some x

abbrev at_own : Text → Text → Option ℕ → spec.Marked → Found
at_own name other i t = cond (bytes_eq other name) (Some (i, t)) None

-- ---- names apart

pub apart : (a b : Text) → IsBefore a b → bytes_eq a b ≡ false
apart a b l = sym (is_eq-slice_cmp a b) ∙ ap is_eq l

pub apart_back : (a b : Text) → IsBefore a b → bytes_eq b a ≡ false
apart_back a b l = sym (is_eq-slice_cmp b a) ∙ ap is_eq (turned_back a b l)

none_behind : (name : Text) (ms : MarkedMembers) → IsBeforeAll name (marked_names ms) → first_named name ms ≡ None
none_behind name no_marked_members all = refl
none_behind name (marked_member other j u ms) all = rw (apart_back name other all.0) (none_behind name ms all.1)

or_none : (x : Found) → or_else x None ≡ x
or_none None = refl
or_none (Some y) = refl

or_through : (x y z : Found) → or_else (or_else x y) z ≡ or_else x (or_else y z)
or_through None y z = refl
or_through (Some x) y z = refl

-- ---- one put

ascend_put : (name : Text) (i : Option ℕ) (t : spec.Marked) (ms : MarkedMembers) → Ascend (marked_names ms) → Ascend (marked_names (put name i t ms))
ascend_put name i t no_marked_members o = (tt, tt)
ascend_put name i t (marked_member other j u ms) o = go (cmp name other) refl (ascend_put name i t ms o.1)
  where
    before_put : (k : Text) (ns : MarkedMembers) → IsBefore k name → IsBeforeAll k (marked_names ns) → IsBeforeAll k (marked_names (put name i t ns))
    before_put k no_marked_members b all = (b, tt)
    before_put k (marked_member l j u ns) b all = step (cmp name l) (before_put k ns b all.1)
      where
        step : (r : Ordering) → IsBeforeAll k (marked_names (put name i t ns)) → IsBeforeAll k (marked_names (put_by r name i t l j u ns (put name i t ns)))
        step Less ih = (b, all)
        step Equal ih = all
        step Greater ih = (all.0, ih)

    go : (r : Ordering) → cmp name other ≡ r → Ascend (marked_names (put name i t ms)) → Ascend (marked_names (put_by r name i t other j u ms (put name i t ms)))
    go Less e ih = ((e, before_through name other (marked_names ms) e o.0), o)
    go Equal e ih = o
    go Greater e ih = (before_put other ms (before_after name other e) o.0, ih)

-- under each name stands what stood there, else what is put
found_put : (k name : Text) (i : Option ℕ) (t : spec.Marked) (ms : MarkedMembers) → Ascend (marked_names ms) → first_named k (put name i t ms) ≡ or_else (first_named k ms) (at_own k name i t)
found_put k name i t no_marked_members o = refl
found_put k name i t (marked_member other j u ms) o = go (cmp name other) refl (found_put k name i t ms o.1)
  where
    own : Found
    own = at_own k name i t

    -- the name is k, and stands nowhere behind
    first : (b : Bool) → bytes_eq name k ≡ b → IsBeforeAll name (other ∷ marked_names ms)
        → cond b (Some (i, t)) (first_named k (marked_member other j u ms)) ≡ or_else (first_named k (marked_member other j u ms)) (cond b (Some (i, t)) None)
    first true e all =
        let none : first_named k (marked_member other j u ms) ≡ None = subst (λ n. first_named n (marked_member other j u ms) ≡ None) (bytes_same name k e) (none_behind name (marked_member other j u ms) all) in
        ap (λ x. or_else x (Some (i, t))) (sym none)
    first false e all = sym (or_none (first_named k (marked_member other j u ms)))

    same : (b : Bool) → bytes_eq other k ≡ b → bytes_eq name k ≡ b → cond b (Some (j, u)) (first_named k ms) ≡ or_else (cond b (Some (j, u)) (first_named k ms)) (cond b (Some (i, t)) None)
    same true e f = refl
    same false e f = sym (or_none (first_named k ms))

    later : (b : Bool) → first_named k (put name i t ms) ≡ or_else (first_named k ms) own → cond b (Some (j, u)) (first_named k (put name i t ms)) ≡ or_else (cond b (Some (j, u)) (first_named k ms)) own
    later true ih = refl
    later false ih = ih

    go : (r : Ordering) → cmp name other ≡ r → first_named k (put name i t ms) ≡ or_else (first_named k ms) own
        → first_named k (put_by r name i t other j u ms (put name i t ms)) ≡ or_else (first_named k (marked_member other j u ms)) own
    go Less e ih = first (bytes_eq name k) refl (e, before_through name other (marked_names ms) e o.0)
    go Equal e ih =
        let tie : bytes_eq name k ≡ bytes_eq other k = ap (λ n. bytes_eq n k) (same_name name other e) in
        rw tie (same (bytes_eq other k) refl tie)
    go Greater e ih = later (bytes_eq other k) ih

-- ---- all in turn

ascend_all : (xs ms : MarkedMembers) → Ascend (marked_names ms) → Ascend (marked_names (put_all xs ms))
ascend_all no_marked_members ms o = o
ascend_all (marked_member name i t xs) ms o = ascend_all xs (put name i t ms) (ascend_put name i t ms o)

own_first : (k name : Text) (i : Option ℕ) (t : spec.Marked) (xs : MarkedMembers) → or_else (at_own k name i t) (first_named k xs) ≡ first_named k (marked_member name i t xs)
own_first k name i t xs = go (bytes_eq name k)
  where
    go : (b : Bool) → or_else (cond b (Some (i, t)) None) (first_named k xs) ≡ cond b (Some (i, t)) (first_named k xs)
    go true = refl
    go false = refl

found_all : (k : Text) (xs ms : MarkedMembers) → Ascend (marked_names ms) → first_named k (put_all xs ms) ≡ or_else (first_named k ms) (first_named k xs)
found_all k no_marked_members ms o = sym (or_none (first_named k ms))
found_all k (marked_member name i t xs) ms o =
    found_all k xs (put name i t ms) (ascend_put name i t ms o)
    ∙ ap (λ x. or_else x (first_named k xs)) (found_put k name i t ms o)
    ∙ or_through (first_named k ms) (at_own k name i t) (first_named k xs)
    ∙ ap (or_else (first_named k ms)) (own_first k name i t xs)

-- ---- ascending members are what stands under each name

same_members : (ms ns : MarkedMembers) → Ascend (marked_names ms) → Ascend (marked_names ns) → ((k : Text) → first_named k ms ≡ first_named k ns) → ms ≡ ns
same_members no_marked_members no_marked_members o p same = refl
same_members no_marked_members (marked_member l j u ns) o p same =
    let e : None ≡ first_named l (marked_member l j u ns) = same l in
    absurd (let f : None ≡ Some (j, u) = rw (bytes_refl l l refl) at e in cc)
same_members (marked_member k i t ms) no_marked_members o p same =
    let e : first_named k (marked_member k i t ms) ≡ None = same k in
    absurd (let f : Some (i, t) ≡ None = rw (bytes_refl k k refl) at e in cc)
same_members (marked_member k i t ms) (marked_member l j u ns) o p same = go (cmp k l) refl (λ rest. same_members ms ns o.1 p.1 rest)
  where
    here : (x : Text) (a : Option ℕ) (b : spec.Marked) (rest : MarkedMembers) → first_named x (marked_member x a b rest) ≡ Some (a, b)
    here x a b rest = rw (bytes_refl x x refl) refl

    go : (r : Ordering) → cmp k l ≡ r → (((x : Text) → first_named x ms ≡ first_named x ns) → ms ≡ ns) → marked_member k i t ms ≡ marked_member l j u ns
    go Less e ih =
        let none : first_named k (marked_member l j u ns) ≡ None = none_behind k (marked_member l j u ns) (e, before_through k l (marked_names ns) e p.0) in
        absurd (let f : Some (i, t) ≡ None = sym (here k i t ms) ∙ same k ∙ none in cc)
    go Greater e ih =
        let none : first_named l (marked_member k i t ms) ≡ None = none_behind l (marked_member k i t ms) (before_after k l e, before_through l k (marked_names ms) (before_after k l e) o.0) in
        absurd (let f : None ≡ Some (j, u) = sym none ∙ same l ∙ here l j u ns in cc)
    go Equal e ih =
        let one : k ≡ l = same_name k l e in
        let pair = pair_same i j t u (sym (here k i t ms) ∙ same k ∙ (ap (λ x. first_named x (marked_member l j u ns)) one ∙ here l j u ns)) in
        let tails : ms ≡ ns = ih (λ x. tail one x (bytes_eq k x) refl) in
        let marks : i ≡ j = pair.0 in
        let trees : t ≡ u = pair.1 in
        cc
      where
        tail : k ≡ l → (x : Text) (b : Bool) → bytes_eq k x ≡ b → first_named x ms ≡ first_named x ns
        tail one x true f =
            let at : k ≡ x = bytes_same k x f in
            let left : first_named x ms ≡ None = subst (λ n. first_named n ms ≡ None) at (none_behind k ms o.0) in
            let right : first_named x ns ≡ None = subst (λ n. first_named n ns ≡ None) (sym one ∙ at) (none_behind l ns p.0) in
            left ∙ sym right
        tail one x false f =
            let g : bytes_eq l x ≡ false = ap (λ n. bytes_eq n x) (sym one) ∙ f in
            let w : cond (bytes_eq k x) (Some (i, t)) (first_named x ms) ≡ cond (bytes_eq l x) (Some (j, u)) (first_named x ns) = same x in
            rw (f, g) at w

-- ---- a stable sort by name

abbrev pub lower : Entry → Entry → Bool
lower a b = is_lt (cmp a.0 b.0)

abbrev first_of : List Entry → Found
first_of [] = None
first_of (m ∷ ms) = Some (m.1, marked_of m.2)

tie_is : (x y : Entry) → ties lower x y ≡ bytes_eq y.0 x.0
tie_is x y = go (cmp x.0 y.0) refl
  where
    go : (o : Ordering) → cmp x.0 y.0 ≡ o → (not (is_lt o) && not (is_lt (cmp y.0 x.0))) ≡ bytes_eq y.0 x.0
    go Less e = sym (apart_back x.0 y.0 e)
    go Equal e = rw (tie_turned x.0 y.0 e) (sym (bytes_refl y.0 x.0 (sym (same_name x.0 y.0 e))))
    go Greater e = rw (before_after x.0 y.0 e) (sym (apart y.0 x.0 (before_after x.0 y.0 e)))

first_filtered : (x : Entry) (ys : List Entry) → first_named x.0 (marked_members_of ys) ≡ first_of (filter (ties lower x) ys)
first_filtered x [] = refl
first_filtered x (y ∷ ys) = rw (tie_is x y) (go (bytes_eq y.0 x.0) (first_filtered x ys))
  where
    go : (b : Bool) → first_named x.0 (marked_members_of ys) ≡ first_of (filter (ties lower x) ys)
        → cond b (Some (y.1, marked_of y.2)) (first_named x.0 (marked_members_of ys)) ≡ first_of (cond b (y ∷ filter (ties lower x) ys) (filter (ties lower x) ys))
    go true ih = refl
    go false ih = ih

pub sorted_puts : (xs ys : List Entry) → IsStableBy lower xs ys → put_all (marked_members_of ys) no_marked_members ≡ put_all (marked_members_of xs) no_marked_members
sorted_puts xs ys stable =
    same_members (put_all (marked_members_of ys) no_marked_members) (put_all (marked_members_of xs) no_marked_members) (ascend_all (marked_members_of ys) no_marked_members tt) (ascend_all (marked_members_of xs) no_marked_members tt)
    (λ k.
    let x : Entry = (k, None, Marked.Null) in
    found_all k (marked_members_of ys) no_marked_members tt
    ∙ (first_filtered x ys ∙ ap first_of (stable x) ∙ sym (first_filtered x xs))
    ∙ sym (found_all k (marked_members_of xs) no_marked_members tt))

found_both : (k : Text) (ms added : List Entry) → first_named k (marked_members_of (ms ++ added)) ≡ or_else (first_named k (marked_members_of ms)) (first_named k (marked_members_of added))
found_both k [] added = refl
found_both k (m ∷ ms) added = go (bytes_eq m.0 k) (found_both k ms added)
  where
    go : (b : Bool) → first_named k (marked_members_of (ms ++ added)) ≡ or_else (first_named k (marked_members_of ms)) (first_named k (marked_members_of added))
        → cond b (Some (m.1, marked_of m.2)) (first_named k (marked_members_of (ms ++ added))) ≡ or_else (cond b (Some (m.1, marked_of m.2)) (first_named k (marked_members_of ms))) (first_named k (marked_members_of added))
    go true ih = refl
    go false ih = ih

-- ascending members with others behind them
pub joined_puts : (ms added : List Entry) → Ascend (names_of ms) → put_all (marked_members_of (ms ++ added)) no_marked_members ≡ put_all (marked_members_of added) (marked_members_of ms)
joined_puts ms added o =
    same_members (put_all (marked_members_of (ms ++ added)) no_marked_members) (put_all (marked_members_of added) (marked_members_of ms)) (ascend_all (marked_members_of (ms ++ added)) no_marked_members tt)
    (ascend_all (marked_members_of added) (marked_members_of ms) o)
    (λ k. found_all k (marked_members_of (ms ++ added)) no_marked_members tt ∙ found_both k ms added ∙ sym (found_all k (marked_members_of added) (marked_members_of ms) o))

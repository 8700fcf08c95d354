-- How deep what is opened is.
use Rattle.std.proofs.Common.{◌≡◌, ℕ, ◌≤◌, max, List, [], ◌∷◌, ◌++◌, Option, Some, None, Ordering, Less, Equal, Greater, nat_cmp, inl, inr, refl, sym, ap, ◌∙◌, arith}
use Rattle.std.specs.Ordering.{match_ordering}
use Rattle.std.specs.Cmp.Lexicographic.{slice_cmp}
use Rattle.std.proofs.lemmas.Map.Lookups.{exact_bytes}
use Rattle.claim_tree.specs.Tree.{Text, depth, elements_depth, members_depth}
use Rattle.sd_outside.specs.Lists.{In}
use Rattle.marked_tree.specs.Marked.{Marked, MarkedElements, no_marked_elements, marked_element, MarkedMembers, no_marked_members, marked_member, put, strip, strip_elements, strip_members}
use Rattle.marked_tree.specs.MarkedCalls.{marked_pushed, joined, marked_names, members_joined, put_all}
use Rattle.marked_tree.specs.View.{marked_of, marked_members_of}
use Rattle.marked_tree.specs.declared.marked.Marked.{Marked as Code}
use Rattle.marked_tree.proofs.MarkSame.{joined-pushed, joined-none}
use Rattle.rebuild_core.specs.Opening.{Shown, nothing_shown, shown, show_element, show_member, show_members}
use Rattle.rebuild_core.specs.Whole.{shown_member, shown_members, shown_depth, shown_depths, IsNew, AllNew, IsElement}

abbrev pub list_depth : MarkedElements → ℕ
list_depth es = elements_depth (strip_elements es)

abbrev pub map_depth : MarkedMembers → ℕ
map_depth ms = members_depth (strip_members ms)

-- ---- arrays

pub joined_push : (es fs : MarkedElements) (i : Option ℕ) (t : Marked) → joined (marked_pushed es i t) fs ≡ joined es (marked_element i t fs)
joined_push es fs i t = joined-pushed es i t fs

pub joined_depth : (xs ys : MarkedElements) → list_depth (joined xs ys) ≡ max (list_depth xs) (list_depth ys)
joined_depth no_marked_elements ys = omega arith
joined_depth (marked_element i t xs) ys = omega (arith, joined_depth xs ys)

-- after a push
pub pushed_depth : (xs ys : MarkedElements) (t : Marked) → ((es : MarkedElements) → joined ys es ≡ joined xs (marked_element None t es)) → list_depth ys ≡ max (list_depth xs) (depth (strip t))
pushed_depth xs ys t h =
    let e : ys ≡ joined xs (marked_element None t no_marked_elements) = sym (joined-none ys) ∙ h no_marked_elements in
    omega (arith, ap list_depth e, joined_depth xs (marked_element None t no_marked_elements))

shown_element_depth : (s : Shown) (es : MarkedElements) → list_depth (show_element s es) ≤ max (shown_depth s) (list_depth es)
shown_element_depth nothing_shown es = omega arith
shown_element_depth (shown i None t) es = omega arith
shown_element_depth (shown i (Some k) t) es = omega arith

pub pushed_shown_depth : (xs ys : MarkedElements) (s : Shown) → ((es : MarkedElements) → joined ys es ≡ joined xs (show_element s es)) → list_depth ys ≤ max (list_depth xs) (shown_depth s)
pushed_shown_depth xs ys s h =
    let e : ys ≡ joined xs (show_element s no_marked_elements) = sym (joined-none ys) ∙ h no_marked_elements in
    omega (arith, ap list_depth e, joined_depth xs (show_element s no_marked_elements), shown_element_depth s no_marked_elements)

-- an element that is shown is there
pub element_keeps : (s : Shown) (es : MarkedElements) → IsElement s → shown_depth s ≤ list_depth (show_element s es)
element_keeps nothing_shown es h = omega arith
element_keeps (shown i None t) es h = omega arith
element_keeps (shown i (Some k) t) es h = absurd h

-- ---- objects

pub members_joined_push : (es : List (Text × Option ℕ × Code)) (k : Text) (i : Option ℕ) (t : Code) (ms : MarkedMembers)
    → members_joined (marked_members_of (es ++ (k, i, t) ∷ [])) ms ≡ members_joined (marked_members_of es) (marked_member k i (marked_of t) ms)
members_joined_push [] k i t ms = refl
members_joined_push (e ∷ es) k i t ms = ap (marked_member e.0 e.1 (marked_of e.2)) (members_joined_push es k i t ms)

pub members_joined_depth : (xs ys : MarkedMembers) → map_depth (members_joined xs ys) ≡ max (map_depth xs) (map_depth ys)
members_joined_depth no_marked_members ys = omega arith
members_joined_depth (marked_member k i t xs) ys = omega (arith, members_joined_depth xs ys)

-- what is shown is put there
pub put_shown : (r : Text → Shown) (ds : List Text) (ms : MarkedMembers) → put_all (shown_members r ds) ms ≡ show_members r ds ms
put_shown r [] ms = refl
put_shown r (d ∷ ds) ms = go (r d) (put_shown r ds)
  where
    go : (s : Shown) → ((ns : MarkedMembers) → put_all (shown_members r ds) ns ≡ show_members r ds ns) → put_all (shown_member s (shown_members r ds)) ms ≡ show_members r ds (show_member s ms)
    go nothing_shown ih = ih ms
    go (shown i None t) ih = ih ms
    go (shown i (Some k) t) ih = ih (put k (Some i) t ms)

pub put_depth_most : (k : Text) (i : Option ℕ) (t : Marked) (ms : MarkedMembers) → map_depth (put k i t ms) ≤ max (depth (strip t)) (map_depth ms)
put_depth_most k i t no_marked_members = omega arith
put_depth_most k i t (marked_member l j u ms) = go (slice_cmp nat_cmp k l) (put_depth_most k i t ms)
  where
    go : (o : Ordering) → map_depth (put k i t ms) ≤ max (depth (strip t)) (map_depth ms)
        → map_depth (match_ordering o (marked_member k i t (marked_member l j u ms)) (marked_member l j u ms) (marked_member l j u (put k i t ms))) ≤ max (depth (strip t)) (map_depth (marked_member l j u ms))
    go Less ih = omega arith
    go Equal ih = omega arith
    go Greater ih = omega (arith, ih)

put_keeps : (k : Text) (i : Option ℕ) (t : Marked) (ms : MarkedMembers) → map_depth ms ≤ map_depth (put k i t ms)
put_keeps k i t no_marked_members = omega arith
put_keeps k i t (marked_member l j u ms) = go (slice_cmp nat_cmp k l) (put_keeps k i t ms)
  where
    go : (o : Ordering) → map_depth ms ≤ map_depth (put k i t ms)
        → map_depth (marked_member l j u ms) ≤ map_depth (match_ordering o (marked_member k i t (marked_member l j u ms)) (marked_member l j u ms) (marked_member l j u (put k i t ms)))
    go Less ih = omega arith
    go Equal ih = omega arith
    go Greater ih = omega (arith, ih)

-- a new member is there
put_new : (k : Text) (i : Option ℕ) (t : Marked) (ms : MarkedMembers) → (In k (marked_names ms) → ⊥) → depth (strip t) ≤ map_depth (put k i t ms)
put_new k i t no_marked_members h = omega arith
put_new k i t (marked_member l j u ms) h = go (slice_cmp nat_cmp k l) refl (put_new k i t ms (λ m. h (inr m)))
  where
    go : (o : Ordering) → slice_cmp nat_cmp k l ≡ o → depth (strip t) ≤ map_depth (put k i t ms)
        → depth (strip t) ≤ map_depth (match_ordering o (marked_member k i t (marked_member l j u ms)) (marked_member l j u ms) (marked_member l j u (put k i t ms)))
    go Less e ih = omega arith
    go Equal e ih = absurd (h (inl (exact_bytes k l e)))
    go Greater e ih = omega (arith, ih)

show_most : (s : Shown) (ms : MarkedMembers) → map_depth (show_member s ms) ≤ max (shown_depth s) (map_depth ms)
show_most nothing_shown ms = omega arith
show_most (shown i None t) ms = omega arith
show_most (shown i (Some k) t) ms = put_depth_most k (Some i) t ms

show_keeps : (s : Shown) (ms : MarkedMembers) → map_depth ms ≤ map_depth (show_member s ms)
show_keeps nothing_shown ms = omega arith
show_keeps (shown i None t) ms = omega arith
show_keeps (shown i (Some k) t) ms = put_keeps k (Some i) t ms

show_new : (s : Shown) (ms : MarkedMembers) → IsNew s ms → shown_depth s ≤ map_depth (show_member s ms)
show_new nothing_shown ms h = omega arith
show_new (shown i None t) ms h = absurd h
show_new (shown i (Some k) t) ms h = put_new k (Some i) t ms h

pub members_most : (r : Text → Shown) (ds : List Text) (ms : MarkedMembers) → map_depth (show_members r ds ms) ≤ max (shown_depths r ds) (map_depth ms)
members_most r [] ms = omega arith
members_most r (d ∷ ds) ms = omega (arith, members_most r ds (show_member (r d) ms), show_most (r d) ms)

pub members_keep : (r : Text → Shown) (ds : List Text) (ms : MarkedMembers) → map_depth ms ≤ map_depth (show_members r ds ms)
members_keep r [] ms = omega arith
members_keep r (d ∷ ds) ms = omega (arith, show_keeps (r d) ms, members_keep r ds (show_member (r d) ms))

pub members_new : (r : Text → Shown) (ds : List Text) (ms : MarkedMembers) → AllNew r ds ms → shown_depths r ds ≤ map_depth (show_members r ds ms)
members_new r [] ms h = omega arith
members_new r (d ∷ ds) ms h = omega (arith, show_new (r d) ms h.0, members_keep r ds (show_member (r d) ms), members_new r ds (show_member (r d) ms) h.1)

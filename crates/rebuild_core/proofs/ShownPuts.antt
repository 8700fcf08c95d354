-- What a member put among others adds and keeps.
use Rattle.std.proofs.Common.{◌≡◌, ℕ, List, [], ◌∷◌, ◌⊎◌, inl, inr, ⊎_elim, Option, Some, None, Ordering, Less, Equal, Greater, refl, sym, subst}
use Rattle.std.specs.Ordering.{match_ordering, nat_cmp}
use Rattle.std.specs.Cmp.Lexicographic.{slice_cmp}
use Rattle.std.proofs.lemmas.Map.Lookups.{exact_bytes}
use Rattle.sd_outside.specs.Lists.{In}
use Rattle.claim_tree.specs.Everywhere.{InMembers}
use Rattle.claim_tree.specs.Tree.{Elements, IsBefore, Leaf, Text, Tree}
use Rattle.marked_tree.specs.Marked.{Marked, MarkedMembers, marked_member, no_marked_members, put, strip, strip_members}
use Rattle.marked_tree.specs.Ways.{members_ways, way_of, ways}
use Rattle.marked_tree.specs.MarkedCalls.{marked_names}
use Rattle.rebuild_core.specs.Free.{HasNoReserved, IsFree}
use Rattle.rebuild_core.specs.Opening.{Shown, nothing_shown, show_member, show_members, shown}
use Rattle.rebuild_core.proofs.FreeMembers.{MembersNoReserved}
use Rattle.sd_outside.proofs.Lists.{In-append, In-left, In-right}
use Rattle.claim_tree.proofs.MapPlaces.{before_after, before_through}
use Rattle.marked_tree.proofs.Names.{Ascend}
use Rattle.marked_tree.proofs.Puts.{IsBeforeAll-not_in, never_itself}
use Rattle.marked_tree.proofs.Spots.{Way}

pub put_adds : (k : Text) (i : Option ℕ) (t : Marked) (ms : MarkedMembers) (v : Way) → Ascend (marked_names ms) → In v (members_ways (put k i t ms))
    → (In v (way_of i (ways t)) × (In k (marked_names ms) → ⊥)) ⊎ In v (members_ways ms)
put_adds k i t no_marked_members v a h = ⊎_elim (λ m. inl (m, λ z. elim z [ ])) (λ z. elim z [ ]) (In-append v (way_of i (ways t)) [] h)
put_adds k i t (marked_member l j u ms) v a h = go (slice_cmp nat_cmp k l) refl h (put_adds k i t ms v a.1)
  where
    go : (o : Ordering) → slice_cmp nat_cmp k l ≡ o → In v (members_ways (match_ordering o (marked_member k i t (marked_member l j u ms)) (marked_member l j u ms) (marked_member l j u (put k i t ms))))
        → (In v (members_ways (put k i t ms)) → (In v (way_of i (ways t)) × (In k (marked_names ms) → ⊥)) ⊎ In v (members_ways ms))
        → (In v (way_of i (ways t)) × (In k (marked_names (marked_member l j u ms)) → ⊥)) ⊎ In v (members_ways (marked_member l j u ms))
    go Less c m ih =
        ⊎_elim (λ x. inl (x, IsBeforeAll-not_in k (l ∷ marked_names ms) (c, before_through k l (marked_names ms) c a.0))) (λ y. inr y)
        (In-append v (way_of i (ways t)) (members_ways (marked_member l j u ms)) m)
    go Equal c m ih = inr m
    go Greater c m ih =
        ⊎_elim (λ x. inr (In-left v (way_of j (ways u)) (members_ways ms) x))
        (λ x. ⊎_elim
        (λ y. inl (y.0, λ z. ⊎_elim (λ e. never_itself k (subst (λ n. IsBefore n k) (sym e) (before_after k l c))) (λ n. y.1 n) z))
        (λ y. inr (In-right v (way_of j (ways u)) (members_ways ms) y)) (ih x))
        (In-append v (way_of j (ways u)) (members_ways (put k i t ms)) m)

pub put_has : (k : Text) (i : Option ℕ) (t : Marked) (ms : MarkedMembers) → In k (marked_names (put k i t ms))
put_has k i t no_marked_members = inl refl
put_has k i t (marked_member l j u ms) = go (slice_cmp nat_cmp k l) refl (put_has k i t ms)
  where
    go : (o : Ordering) → slice_cmp nat_cmp k l ≡ o → In k (marked_names (put k i t ms)) → In k (marked_names (match_ordering o (marked_member k i t (marked_member l j u ms)) (marked_member l j u ms) (marked_member l j u (put k i t ms))))
    go Less c ih = inl refl
    go Equal c ih = inl (exact_bytes k l c)
    go Greater c ih = inr ih

pub put_keeps : (k : Text) (i : Option ℕ) (t : Marked) (ms : MarkedMembers) (l : Text) → In l (marked_names ms) → In l (marked_names (put k i t ms))
put_keeps k i t no_marked_members l h = elim h [ ]
put_keeps k i t (marked_member n j u ms) l h = go (slice_cmp nat_cmp k n) h (put_keeps k i t ms l)
  where
    go : (o : Ordering) → In l (n ∷ marked_names ms) → (In l (marked_names ms) → In l (marked_names (put k i t ms))) → In l (marked_names (match_ordering o (marked_member k i t (marked_member n j u ms)) (marked_member n j u ms) (marked_member n j u (put k i t ms))))
    go Less m ih = inr m
    go Equal m ih = m
    go Greater (inl e) ih = inl e
    go Greater (inr m) ih = inr (ih m)

module _ (P : Leaf → Type 0) (L : Elements → Type 0) (N : Text → Tree → Type 0) where
  -- what is so everywhere in the members with one put among them is so in those that were there
  put_each : (k : Text) (i : Option ℕ) (t : Marked) (ms : MarkedMembers) → InMembers P L N (strip_members (put k i t ms)) → InMembers P L N (strip_members ms)
  put_each k i t no_marked_members f = tt
  put_each k i t (marked_member l j u ms) f = go (slice_cmp nat_cmp k l) f (put_each k i t ms)
    where
      go : (o : Ordering) → InMembers P L N (strip_members (match_ordering o (marked_member k i t (marked_member l j u ms)) (marked_member l j u ms) (marked_member l j u (put k i t ms))))
          → (InMembers P L N (strip_members (put k i t ms)) → InMembers P L N (strip_members ms)) → InMembers P L N (strip_members (marked_member l j u ms))
      go Less h ih = h.2
      go Equal h ih = h
      go Greater h ih = (h.0, h.1, ih h.2)

  show_each : (x : Shown) (ms : MarkedMembers) → InMembers P L N (strip_members (show_member x ms)) → InMembers P L N (strip_members ms)
  show_each nothing_shown ms f = f
  show_each (shown i None t) ms f = f
  show_each (shown i (Some k) t) ms f = put_each k (Some i) t ms f

  pub shows_each : (r : Text → Shown) (ds : List Text) (ms : MarkedMembers) → InMembers P L N (strip_members (show_members r ds ms)) → InMembers P L N (strip_members ms)
  shows_each r [] ms f = f
  shows_each r (d ∷ ds) ms f = show_each (r d) ms (shows_each r ds (show_member (r d) ms) f)

-- what a put adds is free
pub put_new_free : (k : Text) (i : Option ℕ) (t : Marked) (ms : MarkedMembers) → (In k (marked_names ms) → ⊥) → MembersNoReserved (strip_members (put k i t ms)) → IsFree k × HasNoReserved (strip t)
put_new_free k i t no_marked_members new f = (f.0, f.1)
put_new_free k i t (marked_member l j u ms) new f = go (slice_cmp nat_cmp k l) refl f (put_new_free k i t ms (λ m. new (inr m)))
  where
    go : (o : Ordering) → slice_cmp nat_cmp k l ≡ o → MembersNoReserved (strip_members (match_ordering o (marked_member k i t (marked_member l j u ms)) (marked_member l j u ms) (marked_member l j u (put k i t ms))))
        → (MembersNoReserved (strip_members (put k i t ms)) → IsFree k × HasNoReserved (strip t)) → IsFree k × HasNoReserved (strip t)
    go Less c h ih = (h.0, h.1)
    go Equal c h ih = absurd (new (inl (exact_bytes k l c)))
    go Greater c h ih = ih h.2

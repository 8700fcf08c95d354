-- A member put among others, and what becomes of it where marks are left out.
use Rattle.std.proofs.Common.{◌≡◌, ℕ, ◌+◌, List, [], ◌∷◌, ◌⊎◌, inl, inr, ⊎_elim, Option, Some, None, Ordering, Less, Equal, Greater, refl, sym, ap, ◌∙◌, subst, arith}
use Rattle.std.specs.Ordering.{match_ordering, nat_cmp, ordering_reverse}
use Rattle.std.specs.Cmp.Lexicographic.{slice_cmp}
use Rattle.std.proofs.lemmas.Cmp.{nat_list_cmp_total}
use Rattle.std.proofs.lemmas.Map.Lookups.{exact_bytes}
use Rattle.claim_tree.specs.Tree.{Text, IsBefore, IsBeforeAll}
use Rattle.sd_outside.specs.Lists.{In}
use Rattle.marked_tree.specs.Marked.{Marked, MarkedMembers, no_marked_members, marked_member, put, remark, remark_members, new_mark, keep_member}
use Rattle.marked_tree.specs.Ways.{weight, members_weight, mark_weight, ways, members_ways, way_of}
use Rattle.marked_tree.specs.MarkedCalls.{marked_names}
use Rattle.sd_outside.proofs.Lists.{In-left, In-right, In-append}
use Rattle.claim_tree.proofs.MapPlaces.{before_after, before_through}
use Rattle.marked_tree.proofs.Names.{Ascend}

pub before_trans : (k l m : Text) → IsBefore k l → IsBefore l m → IsBefore k m
before_trans k l m h e = nat_list_cmp_total.trans k l m h e

pub never_itself : (k : Text) → IsBefore k k → ⊥
never_itself k h =
    let e : Less ≡ Greater = sym h ∙ nat_list_cmp_total.antisymm k k ∙ ap ordering_reverse h in
    cc

pub IsBeforeAll-not_in : (k : Text) (ns : List Text) → IsBeforeAll k ns → In k ns → ⊥
IsBeforeAll-not_in k (n ∷ ns) a (inl e) = never_itself k (subst (λ z. IsBefore k z) (sym e) a.0)
IsBeforeAll-not_in k (n ∷ ns) a (inr m) = IsBeforeAll-not_in k ns a.1 m
IsBeforeAll-not_in k [] a m = elim m [ ]

-- how two names stand, with what the order says
abbrev pub Where : Text → Text → Ordering → Type 0
Where k l Less = IsBefore k l
Where k l Equal = slice_cmp nat_cmp k l ≡ Equal
Where k l Greater = IsBefore l k

pub where_is : (k l : Text) → Where k l (slice_cmp nat_cmp k l)
where_is k l = go (slice_cmp nat_cmp k l) refl
  where
    go : (o : Ordering) → slice_cmp nat_cmp k l ≡ o → Where k l o
    go Less h = h
    go Equal h = h
    go Greater h = before_after k l h

abbrev put_by : Ordering → Text → Option ℕ → Marked → Text → Option ℕ → Marked → MarkedMembers → MarkedMembers → MarkedMembers
put_by o k i t l j u ms ns = match_ordering o (marked_member k i t (marked_member l j u ms)) (marked_member l j u ms) (marked_member l j u ns)

pub put_names : (k : Text) (i : Option ℕ) (t : Marked) (ms : MarkedMembers) (x : Text) → In x (marked_names (put k i t ms)) → (x ≡ k) ⊎ In x (marked_names ms)
put_names k i t no_marked_members x (inl e) = inl e
put_names k i t no_marked_members x (inr m) = elim m [ ]
put_names k i t (marked_member l j u ms) x h = go (slice_cmp nat_cmp k l) h (put_names k i t ms x)
  where
    go : (o : Ordering) → In x (marked_names (put_by o k i t l j u ms (put k i t ms))) → (In x (marked_names (put k i t ms)) → (x ≡ k) ⊎ In x (marked_names ms))
        → (x ≡ k) ⊎ ((x ≡ l) ⊎ In x (marked_names ms))
    go Less h ih = h
    go Equal h ih = inr h
    go Greater (inl e) ih = inr (inl e)
    go Greater (inr m) ih = ⊎_elim (λ e. inl e) (λ z. inr (inr z)) (ih m)

put_after : (n k : Text) (i : Option ℕ) (t : Marked) (ms : MarkedMembers) → IsBefore n k → IsBeforeAll n (marked_names ms) → IsBeforeAll n (marked_names (put k i t ms))
put_after n k i t no_marked_members h a = (h, tt)
put_after n k i t (marked_member l j u ms) h a = go (slice_cmp nat_cmp k l) (put_after n k i t ms h a.1)
  where
    go : (o : Ordering) → IsBeforeAll n (marked_names (put k i t ms)) → IsBeforeAll n (marked_names (put_by o k i t l j u ms (put k i t ms)))
    go Less ih = (h, a)
    go Equal ih = a
    go Greater ih = (a.0, ih)

pub put_ascending : (k : Text) (i : Option ℕ) (t : Marked) (ms : MarkedMembers) → Ascend (marked_names ms) → Ascend (marked_names (put k i t ms))
put_ascending k i t no_marked_members a = (tt, tt)
put_ascending k i t (marked_member l j u ms) a = go (slice_cmp nat_cmp k l) (where_is k l) (put_ascending k i t ms a.1)
  where
    go : (o : Ordering) → Where k l o → Ascend (marked_names (put k i t ms)) → Ascend (marked_names (put_by o k i t l j u ms (put k i t ms)))
    go Less w ih = ((w, before_through k l (marked_names ms) w a.0), a)
    go Equal w ih = a
    go Greater w ih = (put_after l k i t ms w a.0, ih)

-- a member that comes before all others is put at their head
pub put_first : (k : Text) (i : Option ℕ) (t : Marked) (ms : MarkedMembers) → IsBeforeAll k (marked_names ms) → put k i t ms ≡ marked_member k i t ms
put_first k i t no_marked_members a = refl
put_first k i t (marked_member l j u ms) a = ap (λ o. put_by o k i t l j u ms (put k i t ms)) a.0

pub put_later : (k : Text) (i : Option ℕ) (t : Marked) (l : Text) (j : Option ℕ) (u : Marked) (ms : MarkedMembers) → IsBefore l k → put k i t (marked_member l j u ms) ≡ marked_member l j u (put k i t ms)
put_later k i t l j u ms h = ap (λ o. put_by o k i t l j u ms (put k i t ms)) (nat_list_cmp_total.antisymm k l ∙ ap ordering_reverse h)

remark_after : (n : Text) (f : ℕ → Option ℕ) (ms : MarkedMembers) → IsBeforeAll n (marked_names ms) → IsBeforeAll n (marked_names (remark_members f ms))
remark_after n f no_marked_members a = tt
remark_after n f (marked_member l j u ms) a = go (new_mark f j) (remark_after n f ms a.1)
  where
    go : (o : Option (Option ℕ)) → IsBeforeAll n (marked_names (remark_members f ms)) → IsBeforeAll n (marked_names (keep_member l o (remark f u) (remark_members f ms)))
    go None ih = ih
    go (Some i) ih = (a.0, ih)

abbrev pub put_kept : Text → Option (Option ℕ) → Marked → MarkedMembers → MarkedMembers
put_kept k None t ms = ms
put_kept k (Some i) t ms = put k i t ms

-- leaving out marks and putting a new name change places
pub remark_put : (f : ℕ → Option ℕ) (k : Text) (i : Option ℕ) (t : Marked) (ms : MarkedMembers) → Ascend (marked_names ms) → (In k (marked_names ms) → ⊥)
    → remark_members f (put k i t ms) ≡ put_kept k (new_mark f i) (remark f t) (remark_members f ms)
remark_put f k i t no_marked_members a out = go (new_mark f i)
  where
    go : (o : Option (Option ℕ)) → keep_member k o (remark f t) no_marked_members ≡ put_kept k o (remark f t) no_marked_members
    go None = refl
    go (Some j) = refl
remark_put f k i t (marked_member l j u ms) a out = go (slice_cmp nat_cmp k l) (where_is k l) (new_mark f i) (new_mark f j) (remark_put f k i t ms a.1 (λ m. out (inr m)))
  where
    tail : (ns : MarkedMembers) (o : Option (Option ℕ)) → IsBeforeAll k (marked_names ns) → keep_member k o (remark f t) ns ≡ put_kept k o (remark f t) ns
    tail ns None b = refl
    tail ns (Some n) b = sym (put_first k n (remark f t) ns b)

    go : (c : Ordering) → Where k l c → (o q : Option (Option ℕ)) → remark_members f (put k i t ms) ≡ put_kept k (new_mark f i) (remark f t) (remark_members f ms)
        → remark_members f (put_by c k i t l j u ms (put k i t ms)) ≡ put_kept k (new_mark f i) (remark f t) (keep_member l (new_mark f j) (remark f u) (remark_members f ms))
    go Less w o q ih = tail (remark_members f (marked_member l j u ms)) (new_mark f i) (remark_after k f (marked_member l j u ms) (w, before_through k l (marked_names ms) w a.0))
    go Equal w o q ih = absurd (out (inl (exact_bytes k l w)))
    go Greater w o q ih = ap (keep_member l (new_mark f j) (remark f u)) ih ∙ later (new_mark f i) (new_mark f j)
      where
        later : (o q : Option (Option ℕ)) → keep_member l q (remark f u) (put_kept k o (remark f t) (remark_members f ms)) ≡ put_kept k o (remark f t) (keep_member l q (remark f u) (remark_members f ms))
        later None q = refl
        later (Some n) None = refl
        later (Some n) (Some m) = sym (put_later k n (remark f t) l m (remark f u) (remark_members f ms) w)

-- sums and ways of a put
pub put_weight : (w : ℕ → ℕ) (k : Text) (i : Option ℕ) (t : Marked) (ms : MarkedMembers) → (In k (marked_names ms) → ⊥)
    → members_weight w (put k i t ms) ≡ (mark_weight w i + weight w t) + members_weight w ms
put_weight w k i t no_marked_members out = refl
put_weight w k i t (marked_member l j u ms) out = go (slice_cmp nat_cmp k l) (where_is k l) (put_weight w k i t ms (λ m. out (inr m)))
  where
    go : (o : Ordering) → Where k l o → members_weight w (put k i t ms) ≡ (mark_weight w i + weight w t) + members_weight w ms
        → members_weight w (put_by o k i t l j u ms (put k i t ms)) ≡ (mark_weight w i + weight w t) + ((mark_weight w j + weight w u) + members_weight w ms)
    go Less h ih = refl
    go Equal h ih = absurd (out (inl (exact_bytes k l h)))
    go Greater h ih = omega (arith, ih)

pub put_way : (k : Text) (i : Option ℕ) (t : Marked) (ms : MarkedMembers) (w : ℕ × List ℕ) → (In k (marked_names ms) → ⊥)
    → In w (way_of i (ways t)) → In w (members_ways (put k i t ms))
put_way k i t no_marked_members w out h = In-left w (way_of i (ways t)) [] h
put_way k i t (marked_member l j u ms) w out h = go (slice_cmp nat_cmp k l) (where_is k l) (put_way k i t ms w (λ m. out (inr m)) h)
  where
    go : (o : Ordering) → Where k l o → In w (members_ways (put k i t ms)) → In w (members_ways (put_by o k i t l j u ms (put k i t ms)))
    go Less e ih = In-left w (way_of i (ways t)) (members_ways (marked_member l j u ms)) h
    go Equal e ih = absurd (out (inl (exact_bytes k l e)))
    go Greater e ih = In-right w (way_of j (ways u)) (members_ways (put k i t ms)) ih

pub put_way_other : (k : Text) (i : Option ℕ) (t : Marked) (ms : MarkedMembers) (w : ℕ × List ℕ) → In w (members_ways ms) → In w (members_ways (put k i t ms))
put_way_other k i t no_marked_members w h = elim h [ ]
put_way_other k i t (marked_member l j u ms) w h = go (slice_cmp nat_cmp k l) (In-append w (way_of j (ways u)) (members_ways ms) h) (put_way_other k i t ms w)
  where
    go : (o : Ordering) → In w (way_of j (ways u)) ⊎ In w (members_ways ms) → (In w (members_ways ms) → In w (members_ways (put k i t ms)))
        → In w (members_ways (put_by o k i t l j u ms (put k i t ms)))
    go Less c ih = In-right w (way_of i (ways t)) (members_ways (marked_member l j u ms)) h
    go Equal c ih = h
    go Greater (inl a) ih = In-left w (way_of j (ways u)) (members_ways (put k i t ms)) a
    go Greater (inr b) ih = In-right w (way_of j (ways u)) (members_ways (put k i t ms)) (ih b)

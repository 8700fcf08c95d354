-- Puts of two names change places, so sorted digests show what the unsorted do.
use Rattle.std.proofs.Common.{◌≡◌, ℕ, List, [], ◌∷◌, ◌++◌, Equal, Greater, Less, None, Option, Ordering, Some, ap, inl, inr, refl, subst, sym, ⊎_elim, ◌∙◌, ◌⊎◌}
use Rattle.std.proofs.lemmas.Map.Lookups.{exact_bytes}
use Rattle.std.specs.Cmp.Lexicographic.{slice_cmp}
use Rattle.std.specs.Ordering.{match_ordering, nat_cmp}
use Rattle.sd_outside.specs.Lists.{In}
use Rattle.claim_tree.specs.Tree.{IsBefore, Text}
use Rattle.marked_tree.specs.Marked.{Marked, MarkedMembers, marked_member, no_marked_members, put}
use Rattle.rebuild_core.specs.Opening.{Shown, nothing_shown, show_member, show_members, shown}
use Rattle.issuer_core.specs.Laid.{sorted, sorted_with}
use Rattle.marked_tree.proofs.Puts.{Where, where_is, before_trans, put_later}

put_less : (k : Text) (i : Option ℕ) (t : Marked) (l : Text) (j : Option ℕ) (u : Marked) (ms : MarkedMembers) → IsBefore k l → put k i t (marked_member l j u ms) ≡ marked_member k i t (marked_member l j u ms)
put_less k i t l j u ms h = ap (λ o. match_ordering o (marked_member k i t (marked_member l j u ms)) (marked_member l j u ms) (marked_member l j u (put k i t ms))) h

put_equal : (k : Text) (i : Option ℕ) (t : Marked) (l : Text) (j : Option ℕ) (u : Marked) (ms : MarkedMembers) → slice_cmp nat_cmp k l ≡ Equal → put k i t (marked_member l j u ms) ≡ marked_member l j u ms
put_equal k i t l j u ms h = ap (λ o. match_ordering o (marked_member k i t (marked_member l j u ms)) (marked_member l j u ms) (marked_member l j u (put k i t ms))) h

swap_front : (a b : Text) (i j : Option ℕ) (t u : Marked) (c : Ordering) → Where a b c → (ms : MarkedMembers) → (a ≡ b → ⊥)
    → put a i t ms ≡ marked_member a i t ms → put b j u ms ≡ marked_member b j u ms → put a i t (marked_member b j u ms) ≡ put b j u (marked_member a i t ms)
swap_front a b i j t u Less w ms differ p q = put_less a i t b j u ms w ∙ ap (marked_member a i t) (sym q) ∙ sym (put_later b j u a i t ms w)
swap_front a b i j t u Equal w ms differ p q = absurd (differ (exact_bytes a b w))
swap_front a b i j t u Greater w ms differ p q = put_later a i t b j u ms w ∙ ap (marked_member b j u) p ∙ sym (put_less b j u a i t ms w)

put_swap : (a b : Text) (i j : Option ℕ) (t u : Marked) (ms : MarkedMembers) → (a ≡ b → ⊥) → put a i t (put b j u ms) ≡ put b j u (put a i t ms)
put_swap a b i j t u no_marked_members differ = swap_front a b i j t u (slice_cmp nat_cmp a b) (where_is a b) no_marked_members differ refl refl
put_swap a b i j t u (marked_member l n v ms) differ =
    go (slice_cmp nat_cmp a l) (slice_cmp nat_cmp b l) (where_is a l) (where_is b l) (put_swap a b i j t u ms differ)
  where
    go : (c d : Ordering) → Where a l c → Where b l d → put a i t (put b j u ms) ≡ put b j u (put a i t ms)
        → put a i t (put b j u (marked_member l n v ms)) ≡ put b j u (put a i t (marked_member l n v ms))
    go Less Less x y ih =
        ap (put a i t) (put_less b j u l n v ms y)
        ∙ swap_front a b i j t u (slice_cmp nat_cmp a b) (where_is a b) (marked_member l n v ms) differ (put_less a i t l n v ms x) (put_less b j u l n v ms y)
        ∙ sym (ap (put b j u) (put_less a i t l n v ms x))
    go Less Equal x y ih =
        let z : IsBefore a b = subst (λ k. IsBefore a k) (sym (exact_bytes b l y)) x in
        ap (put a i t) (put_equal b j u l n v ms y) ∙ put_less a i t l n v ms x
        ∙ sym (ap (put b j u) (put_less a i t l n v ms x) ∙ put_later b j u a i t (marked_member l n v ms) z ∙ ap (marked_member a i t) (put_equal b j u l n v ms y))
    go Less Greater x y ih =
        ap (put a i t) (put_later b j u l n v ms y) ∙ put_less a i t l n v (put b j u ms) x
        ∙ sym (ap (put b j u) (put_less a i t l n v ms x) ∙ put_later b j u a i t (marked_member l n v ms) (before_trans a l b x y) ∙ ap (marked_member a i t) (put_later b j u l n v ms y))
    go Equal Less x y ih =
        let z : IsBefore b a = subst (λ k. IsBefore b k) (sym (exact_bytes a l x)) y in
        ap (put a i t) (put_less b j u l n v ms y) ∙ put_later a i t b j u (marked_member l n v ms) z ∙ ap (marked_member b j u) (put_equal a i t l n v ms x)
        ∙ sym (ap (put b j u) (put_equal a i t l n v ms x) ∙ put_less b j u l n v ms y)
    go Equal Equal x y ih = absurd (differ (exact_bytes a l x ∙ sym (exact_bytes b l y)))
    go Equal Greater x y ih =
        ap (put a i t) (put_later b j u l n v ms y) ∙ put_equal a i t l n v (put b j u ms) x
        ∙ sym (ap (put b j u) (put_equal a i t l n v ms x) ∙ put_later b j u l n v ms y)
    go Greater Less x y ih =
        ap (put a i t) (put_less b j u l n v ms y) ∙ put_later a i t b j u (marked_member l n v ms) (before_trans b l a y x) ∙ ap (marked_member b j u) (put_later a i t l n v ms x)
        ∙ sym (ap (put b j u) (put_later a i t l n v ms x) ∙ put_less b j u l n v (put a i t ms) y)
    go Greater Equal x y ih =
        ap (put a i t) (put_equal b j u l n v ms y) ∙ put_later a i t l n v ms x
        ∙ sym (ap (put b j u) (put_later a i t l n v ms x) ∙ put_equal b j u l n v (put a i t ms) y)
    go Greater Greater x y ih =
        ap (put a i t) (put_later b j u l n v ms y) ∙ put_later a i t l n v (put b j u ms) x ∙ ap (marked_member l n v) ih
        ∙ sym (ap (put b j u) (put_later a i t l n v ms x) ∙ put_later b j u l n v (put a i t ms) y)

-- ---- the sorted digests show what the unsorted do

abbrev pub ShowApart : Shown → Shown → Type 0
ShowApart nothing_shown y = Unit {0}
ShowApart (shown i None t) y = Unit {0}
ShowApart (shown i (Some a) t) nothing_shown = Unit {0}
ShowApart (shown i (Some a) t) (shown j None u) = Unit {0}
ShowApart (shown i (Some a) t) (shown j (Some b) u) = a ≡ b → ⊥

show_swap : (x y : Shown) (ms : MarkedMembers) → ShowApart x y → show_member x (show_member y ms) ≡ show_member y (show_member x ms)
show_swap nothing_shown y ms h = refl
show_swap (shown i None t) y ms h = refl
show_swap (shown i (Some a) t) nothing_shown ms h = refl
show_swap (shown i (Some a) t) (shown j None u) ms h = refl
show_swap (shown i (Some a) t) (shown j (Some b) u) ms h = put_swap a b (Some i) (Some j) t u ms h

pub insert_in : (d : Text) (ds : List Text) (e : Text) → In e (sorted_with d ds) → (e ≡ d) ⊎ In e ds
insert_in d [] e (inl q) = inl q
insert_in d [] e (inr m) = elim m [ ]
insert_in d (c ∷ ds) e h = go (slice_cmp nat_cmp d c) h (insert_in d ds e)
  where
    go : (o : Ordering) → In e (match_ordering o (d ∷ c ∷ ds) (d ∷ c ∷ ds) (c ∷ sorted_with d ds)) → (In e (sorted_with d ds) → (e ≡ d) ⊎ In e ds) → (e ≡ d) ⊎ ((e ≡ c) ⊎ In e ds)
    go Less m ih = m
    go Equal m ih = m
    go Greater (inl q) ih = inr (inl q)
    go Greater (inr m) ih = ⊎_elim (λ q. inl q) (λ z. inr (inr z)) (ih m)

pub sort_in : (ds : List Text) (e : Text) → In e (sorted ds) → In e ds
sort_in [] e m = m
sort_in (d ∷ ds) e m = ⊎_elim (λ q. inl q) (λ z. inr (sort_in ds e z)) (insert_in d (sorted ds) e m)

insert_shows : (r : Text → Shown) (d : Text) (ds : List Text) (ms : MarkedMembers) → ((e : Text) → In e ds → ShowApart (r d) (r e)) → show_members r (sorted_with d ds) ms ≡ show_members r (d ∷ ds) ms
insert_shows r d [] ms h = refl
insert_shows r d (e ∷ ds) ms h = go (slice_cmp nat_cmp d e) (insert_shows r d ds (show_member (r e) ms) (λ c m. h c (inr m)))
  where
    go : (o : Ordering) → show_members r (sorted_with d ds) (show_member (r e) ms) ≡ show_members r (d ∷ ds) (show_member (r e) ms)
        → show_members r (match_ordering o (d ∷ e ∷ ds) (d ∷ e ∷ ds) (e ∷ sorted_with d ds)) ms ≡ show_members r (d ∷ e ∷ ds) ms
    go Less ih = refl
    go Equal ih = refl
    go Greater ih = ih ∙ ap (show_members r ds) (show_swap (r d) (r e) ms (h e (inl refl)))

abbrev pub AllApart : (Text → Shown) → List Text → Type 0
AllApart r [] = Unit {0}
AllApart r (d ∷ ds) = ((e : Text) → In e ds → ShowApart (r d) (r e)) × AllApart r ds

pub sort_shows : (r : Text → Shown) (ds : List Text) (ms : MarkedMembers) → AllApart r ds → show_members r (sorted ds) ms ≡ show_members r ds ms
sort_shows r [] ms h = refl
sort_shows r (d ∷ ds) ms h = insert_shows r d (sorted ds) ms (λ e m. h.0 e (sort_in ds e m)) ∙ sort_shows r ds (show_member (r d) ms) h.1

pub show_append : (r : Text → Shown) (ds es : List Text) (ms : MarkedMembers) → show_members r (ds ++ es) ms ≡ show_members r es (show_members r ds ms)
show_append r [] es ms = refl
show_append r (d ∷ ds) es ms = show_append r ds es (show_member (r d) ms)

pub show_none : (r : Text → Shown) (ds : List Text) (ms : MarkedMembers) → ((d : Text) → In d ds → r d ≡ nothing_shown) → show_members r ds ms ≡ ms
show_none r [] ms h = refl
show_none r (d ∷ ds) ms h = ap (λ x. show_members r ds (show_member x ms)) (h d (inl refl)) ∙ show_none r ds ms (λ e m. h e (inr m))

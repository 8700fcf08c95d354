-- What is laid opens to the tree from which it was laid.
use Rattle.std.proofs.Common.{◌≡◌, ℕ, zero, suc, ◌≤◌, List, [], ◌∷◌, ◌++◌, None, Option, Some, ap, ap₂, arith, cond, decimal, inl, inr, refl, subst, sym, ⊎_elim, ◌∙◌, max}
use Rattle.sd_outside.specs.Lists.{In}
use Rattle.claim_tree.specs.Tree.{IsBefore, IsBeforeAll, Text, Tree}
use Rattle.digest_sites.specs.Given.{Given}
use Rattle.digest_sites.specs.Reserved.{sd_name}
use Rattle.marked_tree.specs.Marked.{Marked, MarkedElements, MarkedMembers, marked_array, marked_element, marked_leaf, marked_member, marked_object, no_marked_elements, no_marked_members}
use Rattle.marked_tree.specs.MarkedCalls.{marked_names}
use Rattle.rebuild_core.specs.Reached.{find}
use Rattle.rebuild_core.specs.Opening.{Shown, nothing_shown, open_element, open_elements, open_members, open_tree, reveal, show_element, show_member, show_members, shown, shown_by}
use Rattle.issuer_core.specs.Laid.{digest_object, hidden_digests, lay, lay_elements, lay_members, sorted, with_sd}
use Rattle.sd_outside.proofs.Lists.{In-append}
use Rattle.marked_tree.proofs.Puts.{never_itself, put_first, put_later}
use Rattle.rebuild_core.proofs.Fixed.{unknown}
use Rattle.issuer_core.proofs.Plain.{ElementsPlain, IsPlain, MembersPlain}
use Rattle.issuer_core.proofs.SdMembers.{decoys_left_out, digest_read, laid_no_digest, lay_has_no, with_sd_open, with_sd_texts}
use Rattle.issuer_core.proofs.PutSwaps.{ShowApart, AllApart, sort_shows, show_append, show_none}

abbrev pub MarkItem : List Given → (ℕ → Text) → Option ℕ → Option Text → Tree → Type 0
MarkItem g dg None name t = Unit {0}
MarkItem g dg (Some k) name t = find g (dg k) ≡ Some (k, record { digest = dg k; name = name; value = t })

abbrev pub NoneFound : List Given → List Text → Type 0
NoneFound g ds = (d : Text) → In d ds → find g d ≡ None

-- g has the disclosure of each mark, and none of a decoy
abbrev mutual
  pub HasItems : List Given → (List Text → List Text) → (ℕ → Text) → Marked → Type 0
  HasItems g dec dg (marked_leaf l) = Unit {0}
  HasItems g dec dg (marked_array es) = NoneFound g (dec []) × ElementsHaveItems g dec dg 0 es
  HasItems g dec dg (marked_object ms) = NoneFound g (dec []) × MembersHaveItems g dec dg ms

  pub ElementsHaveItems : List Given → (List Text → List Text) → (ℕ → Text) → ℕ → MarkedElements → Type 0
  ElementsHaveItems g dec dg i no_marked_elements = Unit {0}
  ElementsHaveItems g dec dg i (marked_element k t es) =
      MarkItem g dg k None (lay (λ p. dec (decimal i ∷ p)) dg t) × HasItems g (λ p. dec (decimal i ∷ p)) dg t × ElementsHaveItems g dec dg (suc i) es

  pub MembersHaveItems : List Given → (List Text → List Text) → (ℕ → Text) → MarkedMembers → Type 0
  MembersHaveItems g dec dg no_marked_members = Unit {0}
  MembersHaveItems g dec dg (marked_member k i t ms) =
      MarkItem g dg i (Some k) (lay (λ p. dec (k ∷ p)) dg t) × HasItems g (λ p. dec (k ∷ p)) dg t × MembersHaveItems g dec dg ms

abbrev pub one_deeper : Option ℕ → ℕ → ℕ
one_deeper None n = n
one_deeper (Some k) n = suc n

-- how many marks lie one inside another
abbrev mutual
  pub mark_depth : Marked → ℕ
  mark_depth (marked_leaf l) = 0
  mark_depth (marked_array es) = elements_mark_depth es
  mark_depth (marked_object ms) = members_mark_depth ms

  pub elements_mark_depth : MarkedElements → ℕ
  elements_mark_depth no_marked_elements = 0
  elements_mark_depth (marked_element k t es) = max (one_deeper k (mark_depth t)) (elements_mark_depth es)

  pub members_mark_depth : MarkedMembers → ℕ
  members_mark_depth no_marked_members = 0
  members_mark_depth (marked_member n k t ms) = max (one_deeper k (mark_depth t)) (members_mark_depth ms)

-- ---- names shown after k

abbrev ShowsAfter : Text → Shown → Type 0
ShowsAfter k nothing_shown = Unit {0}
ShowsAfter k (shown i None t) = Unit {0}
ShowsAfter k (shown i (Some l) t) = IsBefore k l

show_after : (r : Text → Shown) (k : Text) (i : Option ℕ) (t : Marked) (ds : List Text) (ms : MarkedMembers) → ((d : Text) → In d ds → ShowsAfter k (r d))
    → show_members r ds (marked_member k i t ms) ≡ marked_member k i t (show_members r ds ms)
show_after r k i t [] ms h = refl
show_after r k i t (d ∷ ds) ms h = ap (show_members r ds) (one (r d) (h d (inl refl))) ∙ show_after r k i t ds (show_member (r d) ms) (λ e m. h e (inr m))
  where
    one : (x : Shown) → ShowsAfter k x → show_member x (marked_member k i t ms) ≡ marked_member k i t (show_member x ms)
    one nothing_shown a = refl
    one (shown j None u) a = refl
    one (shown j (Some l) u) a = put_later l (Some j) u k i t ms a

apart_after : (k : Text) (i : ℕ) (t : Marked) (x y : Shown) → x ≡ shown i (Some k) t → ShowsAfter k y → ShowApart x y
apart_after k i t x nothing_shown e a = subst (λ z. ShowApart z nothing_shown) (sym e) tt
apart_after k i t x (shown j None u) e a = subst (λ z. ShowApart z (shown j None u)) (sym e) tt
apart_after k i t x (shown j (Some l) u) e a = subst (λ z. ShowApart z (shown j (Some l) u)) (sym e) (λ q. never_itself k (subst (λ z. IsBefore k z) (sym q) a))

apart_hidden : (x y : Shown) → y ≡ nothing_shown → ShowApart x y
apart_hidden nothing_shown y e = tt
apart_hidden (shown i None t) y e = tt
apart_hidden (shown i (Some a) t) y e = subst (λ z. ShowApart (shown i (Some a) t) z) (sym e) tt

-- ---- the round trip

shows_item : (g : List Given) (f : ℕ) (d : Text) (k : ℕ) (n : Option Text) (v : Tree) (t : Marked) → find g d ≡ Some (k, record { digest = d; name = n; value = v })
    → open_tree (reveal f g) v ≡ t → reveal (suc f) g d ≡ shown k n t
shows_item g f d k n v t h e = ap (shown_by (open_tree (reveal f g))) h ∙ ap (shown k n) e

module _ (g : List Given) (dg : ℕ → Text) where
  hidden_after : (f : ℕ) (dec : List Text → List Text) (k : Text) (ms : MarkedMembers) → IsBeforeAll k (marked_names ms) → MembersHaveItems g dec dg ms
      → (d : Text) → In d (hidden_digests dg ms) → ShowsAfter k (reveal f g d)
  hidden_after f dec k no_marked_members a h d m = elim m [ ]
  hidden_after f dec k (marked_member l None t ms) a h d m = hidden_after f dec k ms a.1 h.2 d m
  hidden_after f dec k (marked_member l (Some i) t ms) a h d (inr m) = hidden_after f dec k ms a.1 h.2 d m
  hidden_after zero dec k (marked_member l (Some i) t ms) a h d (inl e) = tt
  hidden_after (suc f) dec k (marked_member l (Some i) t ms) a h d (inl e) =
      subst (λ z. ShowsAfter k (reveal (suc f) g z)) (sym e)
      (subst (λ z. ShowsAfter k z) (sym (shows_item g f (dg i) i (Some l) _ _ h.0 refl)) a.0)

  all_apart : (f : ℕ) (dec : List Text → List Text) (ms : MarkedMembers) (ds : List Text) → MembersPlain ms → MembersHaveItems g dec dg ms → NoneFound g ds
      → AllApart (reveal f g) (hidden_digests dg ms ++ ds)
  all_apart f dec no_marked_members ds p h none = only_decoys ds none
    where
      only_decoys : (es : List Text) → NoneFound g es → AllApart (reveal f g) es
      only_decoys [] no_one = tt
      only_decoys (e ∷ es) no_one = (λ d m. apart_hidden (reveal f g e) (reveal f g d) (unknown f g d (no_one d (inr m))), only_decoys es (λ d m. no_one d (inr m)))
  all_apart f dec (marked_member l None t ms) ds p h none = all_apart f dec ms ds p.4 h.2 none
  all_apart zero dec (marked_member l (Some i) t ms) ds p h none = (λ e m. tt, all_apart zero dec ms ds p.4 h.2 none)
  all_apart (suc f) dec (marked_member l (Some i) t ms) ds p h none = (
    (λ e m. ⊎_elim
        (λ a. apart_after l i _ (reveal (suc f) g (dg i)) (reveal (suc f) g e) (shows_item g f (dg i) i (Some l) _ _ h.0 refl) (hidden_after (suc f) dec l ms p.2 h.2 e a))
        (λ b. apart_hidden (reveal (suc f) g (dg i)) (reveal (suc f) g e) (unknown (suc f) g e (none e b)))
        (In-append e (hidden_digests dg ms) ds m)),
    all_apart (suc f) dec ms ds p.4 h.2 none,
  )

  lay_after : (r : Text → Shown) (dec : List Text → List Text) (k : Text) (ms : MarkedMembers) → IsBeforeAll k (marked_names ms) → MembersPlain ms → IsBeforeAll k (marked_names (open_members r (lay_members dec dg ms)))
  lay_after r dec k no_marked_members a p = tt
  lay_after r dec k (marked_member l None t ms) a p = rw p.0 (a.0, lay_after r dec k ms a.1 p.4)
  lay_after r dec k (marked_member l (Some i) t ms) a p = lay_after r dec k ms a.1 p.4

  mutual
    pub laid_opens : (f : ℕ) (dec : List Text → List Text) (m : Marked) → mark_depth m ≤ f → IsPlain m → HasItems g dec dg m → open_tree (reveal f g) (lay dec dg m) ≡ m
    laid_opens f dec (marked_leaf l) b p h = refl
    laid_opens f dec (marked_array es) b p h = ap marked_array (elements_open f dec 0 es b p h.1 h.0)
    laid_opens f dec (marked_object ms) b p h =
        let r : Text → Shown = reveal f g in
        let none = lay_has_no sd_name (λ k a c. a) dec dg ms p in
        let ds = hidden_digests dg ms ++ dec [] in
        ap marked_object
        (ap (λ es. show_members r es (open_members r (with_sd (sorted ds) (lay_members dec dg ms)))) (with_sd_texts (sorted ds) (lay_members dec dg ms) none)
        ∙ ap (show_members r (sorted ds)) (with_sd_open r (sorted ds) (lay_members dec dg ms) none)
        ∙ sort_shows r ds (open_members r (lay_members dec dg ms)) (all_apart f dec ms (dec []) p h.1 h.0)
        ∙ show_append r (hidden_digests dg ms) (dec []) (open_members r (lay_members dec dg ms))
        ∙ show_none r (dec []) (show_members r (hidden_digests dg ms) (open_members r (lay_members dec dg ms))) (λ d m. unknown f g d (h.0 d m))
        ∙ members_open f dec ms b p h.1)

    elements_open : (f : ℕ) (dec : List Text → List Text) (i : ℕ) (es : MarkedElements) → elements_mark_depth es ≤ f → ElementsPlain es → ElementsHaveItems g dec dg i es → NoneFound g (dec [])
        → open_elements (reveal f g) (lay_elements dec dg i es) ≡ es
    elements_open f dec i no_marked_elements b p h none = decoys_left_out (reveal f g) (dec []) (λ d m. unknown f g d (none d m))
    elements_open f dec i (marked_element None t es) b p h none =
        ap (λ o. open_element (reveal f g) o (open_tree (reveal f g) (lay (λ q. dec (decimal i ∷ q)) dg t)) (open_elements (reveal f g) (lay_elements dec dg (suc i) es))) (laid_no_digest (λ q. dec (decimal i ∷ q)) dg t p.0)
        ∙ ap₂ (marked_element None) (laid_opens f (λ q. dec (decimal i ∷ q)) t (omega arith) p.0 h.1) (elements_open f dec (suc i) es (omega arith) p.1 h.2 none)
    elements_open zero dec i (marked_element (Some k) t es) b p h none = absurd (omega arith)
    elements_open (suc f) dec i (marked_element (Some k) t es) b p h none =
        let inner = laid_opens f (λ q. dec (decimal i ∷ q)) t (omega arith) p.0 h.1 in
        ap (λ o. open_element (reveal (suc f) g) o (open_tree (reveal (suc f) g) (digest_object (dg k))) (open_elements (reveal (suc f) g) (lay_elements dec dg (suc i) es))) (digest_read (dg k))
        ∙ ap₂ show_element (shows_item g f (dg k) k None (lay (λ q. dec (decimal i ∷ q)) dg t) t h.0 inner) (elements_open (suc f) dec (suc i) es (omega arith) p.1 h.2 none)

    members_open : (f : ℕ) (dec : List Text → List Text) (ms : MarkedMembers) → members_mark_depth ms ≤ f → MembersPlain ms → MembersHaveItems g dec dg ms
        → show_members (reveal f g) (hidden_digests dg ms) (open_members (reveal f g) (lay_members dec dg ms)) ≡ ms
    members_open f dec no_marked_members b p h = refl
    members_open f dec (marked_member k None t ms) b p h =
        let r : Text → Shown = reveal f g in
        ap (λ c. show_members r (hidden_digests dg ms) (cond c (open_members r (lay_members dec dg ms)) (marked_member k None (open_tree r (lay (λ q. dec (k ∷ q)) dg t)) (open_members r (lay_members dec dg ms))))) p.0
        ∙ show_after r k None (open_tree r (lay (λ q. dec (k ∷ q)) dg t)) (hidden_digests dg ms) (open_members r (lay_members dec dg ms)) (hidden_after f dec k ms p.2 h.2)
        ∙ ap₂ (marked_member k None) (laid_opens f (λ q. dec (k ∷ q)) t (omega arith) p.3 h.1) (members_open f dec ms (omega arith) p.4 h.2)
    members_open zero dec (marked_member k (Some i) t ms) b p h = absurd (omega arith)
    members_open (suc f) dec (marked_member k (Some i) t ms) b p h =
        let r : Text → Shown = reveal (suc f) g in
        let inner = laid_opens f (λ q. dec (k ∷ q)) t (omega arith) p.3 h.1 in
        ap (λ x. show_members r (hidden_digests dg ms) (show_member x (open_members r (lay_members dec dg ms)))) (shows_item g f (dg i) i (Some k) (lay (λ q. dec (k ∷ q)) dg t) t h.0 inner)
        ∙ ap (show_members r (hidden_digests dg ms)) (put_first k (Some i) t (open_members r (lay_members dec dg ms)) (lay_after r dec k ms p.2 p.4))
        ∙ show_after r k (Some i) t (hidden_digests dg ms) (open_members r (lay_members dec dg ms)) (hidden_after (suc f) dec k ms p.2 h.2)
        ∙ ap (marked_member k (Some i) t) (members_open (suc f) dec ms (omega arith) p.4 h.2)

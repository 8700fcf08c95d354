-- How deep a tree is of which it is known how deep it is opened, and so the values of the disclosures that are shown in it.
use Rattle.std.proofs.Common.{◌≡◌, ℕ, suc, ◌≤◌, List, [], ◌∷◌, length, Bool, true, false, cond, ◌⊎◌, inl, inr, ⊎_elim, Option, Some, None, Ordering, Less, Equal, Greater, refl, sym, subst, arith}
use Rattle.std.specs.Prelude.{bytes_eq, option_and_then, option_map, if◌then◌else◌}
use Rattle.std.specs.Ordering.{match_ordering, nat_cmp}
use Rattle.std.specs.Cmp.Lexicographic.{slice_cmp}
use Rattle.sd_outside.specs.Lists.{StandsAt, In}
use Rattle.claim_tree.specs.Tree.{Text, Tree, leaf, array, object, Elements, no_elements, element, Members, no_members, member, text_of, depth, elements_depth, members_depth}
use Rattle.claim_tree.proofs.Everywheres.{EachElementIn, EachMemberIn}
use Rattle.sd_outside.proofs.Lists.{In-append, In-left, In-right}
use Rattle.digest_sites.specs.Given.{Given}
use Rattle.digest_sites.specs.Reserved.{sd_name, dots_name, sd_texts, text_list, texts_of, element_digest}
use Rattle.marked_tree.specs.Marked.{Marked, MarkedElements, MarkedMembers, marked_member, no_marked_members, put, strip}
use Rattle.marked_tree.specs.Ways.{ways, elements_ways, members_ways, way_of}
use Rattle.rebuild_core.specs.Opening.{Shown, nothing_shown, shown, reveal, open_tree, open_elements, open_members, open_element, show_members, show_element, show_member, opened}
use Rattle.rebuild_core.specs.Soundness.{IsReferencedOnce}
use Rattle.rebuild_core.specs.Whole.{shown_depth}
use Rattle.rebuild_core.proofs.ShownBy.{way_step, shown_from}
use Rattle.rebuild_core.proofs.ShownDepths.{list_depth, map_depth, members_keep}
use Rattle.marked_tree.proofs.Spots.{Way}
use Rattle.rebuild_core.proofs.Marks.{shown_ways}
use Rattle.issuer_core.specs.Issued.{IsDigestList, HasDigestLists}
use Rattle.issuer_core.proofs.LaidLists.{IsSdList}

-- ---- the tree itself

text_depth : (t : Tree) (s : Text) → text_of t ≡ Some s → depth t ≡ 0
text_depth (leaf l) s e = refl
text_depth (array es) s e = cc e
text_depth (object ms) s e = cc e

digest_depth : (t : Tree) (d : Text) → element_digest t ≡ Some d → depth t ≤ 1
digest_depth (leaf l) d e = cc e
digest_depth (array es) d e = cc e
digest_depth (object no_members) d e = cc e
digest_depth (object (member k t (member l x ms))) d e = cc e
digest_depth (object (member k t no_members)) d e = go (bytes_eq k dots_name) e
  where
    go : (b : Bool) → (if b then text_of t else None) ≡ Some d → depth (object (member k t no_members)) ≤ 1
    go true e = omega (arith, text_depth t d e)
    go false e = cc e

list_flat : (es : Elements) (ds : List Text) → texts_of es ≡ Some ds → elements_depth es ≡ 0
list_flat no_elements ds e = refl
list_flat (element t es) ds e = go (text_of t) refl (texts_of es) refl e (λ ss z. list_flat es ss z)
  where
    go : (o : Option Text) → text_of t ≡ o → (os : Option (List Text)) → texts_of es ≡ os → option_and_then (λ s. option_map (λ ss. s ∷ ss) os) o ≡ Some ds
        → ((ss : List Text) → texts_of es ≡ Some ss → elements_depth es ≡ 0) → elements_depth (element t es) ≡ 0
    go None q os z e rest = cc e
    go (Some s) q None z e rest = cc e
    go (Some s) q (Some ss) z e rest = omega (arith, text_depth t s q, rest ss z)

digests_depth : (t : Tree) (ds : List Text) → text_list t ≡ Some ds → depth t ≤ 1
digests_depth (array es) ds e = omega (arith, list_flat es ds e)
digests_depth (leaf l) ds e = cc e
digests_depth (object ms) ds e = cc e

element_depth : (r : Text → Shown) (t : Tree) (es : Elements) (o : Option Text) → element_digest t ≡ o → depth t ≤ suc (depth (strip (open_tree r t))) → elements_depth es ≤ suc (list_depth (open_elements r es))
    → elements_depth (element t es) ≤ suc (list_depth (open_element r o (open_tree r t) (open_elements r es)))
element_depth r t es None q one rest = omega (arith, one, rest)
element_depth r t es (Some d) q one rest = omega (arith, digest_depth t d q, rest, keeps (r d))
  where
    keeps : (x : Shown) → list_depth (open_elements r es) ≤ list_depth (show_element x (open_elements r es))
    keeps nothing_shown = omega arith
    keeps (shown i None u) = omega arith
    keeps (shown i (Some l) u) = omega arith

member_depth : (r : Text → Shown) (k : Text) (t : Tree) (ms : Members) (b : Bool) → bytes_eq k sd_name ≡ b → (b ≡ true → IsDigestList t) → depth t ≤ suc (depth (strip (open_tree r t))) → members_depth ms ≤ suc (map_depth (open_members r ms))
    → members_depth (member k t ms) ≤ suc (map_depth (if b then open_members r ms else marked_member k None (open_tree r t) (open_members r ms)))
member_depth r k t ms true q is one rest = let list = is refl in omega (arith, digests_depth t (list.0 ∷ list.1) list.2, rest)
member_depth r k t ms false q is one rest = omega (arith, one, rest)

mutual
  -- by at most one level more than what is opened
  pub tree_depth : (r : Text → Shown) (t : Tree) → HasDigestLists t → depth t ≤ suc (depth (strip (open_tree r t)))
  tree_depth r (leaf l) lists = omega arith
  tree_depth r (array es) lists = omega (arith, elements_within r es lists.1)
  tree_depth r (object ms) lists = omega (arith, members_within r ms lists, members_keep r (sd_texts ms) (open_members r ms))

  elements_within : (r : Text → Shown) (es : Elements) → EachElementIn IsSdList es → elements_depth es ≤ suc (list_depth (open_elements r es))
  elements_within r no_elements lists = omega arith
  elements_within r (element t es) lists = element_depth r t es (element_digest t) refl (tree_depth r t lists.0) (elements_within r es lists.1)

  members_within : (r : Text → Shown) (ms : Members) → EachMemberIn IsSdList ms → members_depth ms ≤ suc (map_depth (open_members r ms))
  members_within r no_members lists = omega arith
  members_within r (member k t ms) lists = member_depth r k t ms (bytes_eq k sd_name) refl lists.0 (tree_depth r t lists.1) (members_within r ms lists.2)

-- ---- what is shown

-- the way is one of what some digest shows, which is no deeper
abbrev FromShown : (Text → Shown) → ℕ → Way → Type 0
FromShown r c v = (d : Text) × In v (shown_ways (r d)) × (shown_depth (r d) ≤ c)

put_back : (k : Text) (i : Option ℕ) (t : Marked) (ms : MarkedMembers) (c : ℕ) (v : Way) → map_depth (put k i t ms) ≤ c → In v (members_ways (put k i t ms))
    → (In v (way_of i (ways t)) × (depth (strip t) ≤ c)) ⊎ In v (members_ways ms)
put_back k i t no_marked_members c v f h = ⊎_elim (λ a. inl (a, omega (arith, f))) (λ b. absurd b) (In-append v (way_of i (ways t)) [] h)
put_back k i t (marked_member l j u ms) c v f h = go (slice_cmp nat_cmp k l) f h (put_back k i t ms c v)
  where
    go : (o : Ordering) → map_depth (match_ordering o (marked_member k i t (marked_member l j u ms)) (marked_member l j u ms) (marked_member l j u (put k i t ms))) ≤ c
        → In v (members_ways (match_ordering o (marked_member k i t (marked_member l j u ms)) (marked_member l j u ms) (marked_member l j u (put k i t ms))))
        → (map_depth (put k i t ms) ≤ c → In v (members_ways (put k i t ms)) → (In v (way_of i (ways t)) × (depth (strip t) ≤ c)) ⊎ In v (members_ways ms))
        → (In v (way_of i (ways t)) × (depth (strip t) ≤ c)) ⊎ In v (members_ways (marked_member l j u ms))
    go Less f m ih = ⊎_elim (λ a. inl (a, omega (arith, f))) (λ b. inr b) (In-append v (way_of i (ways t)) (members_ways (marked_member l j u ms)) m)
    go Equal f m ih = inr m
    go Greater f m ih =
        ⊎_elim (λ a. inr (In-left v (way_of j (ways u)) (members_ways ms) a))
        (λ b. ⊎_elim (λ x. inl x) (λ x. inr (In-right v (way_of j (ways u)) (members_ways ms) x)) (ih (omega (arith, f)) b))
        (In-append v (way_of j (ways u)) (members_ways (put k i t ms)) m)

show_back : (x : Shown) (ms : MarkedMembers) (c : ℕ) (v : Way) → map_depth (show_member x ms) ≤ c → In v (members_ways (show_member x ms)) → (In v (shown_ways x) × (shown_depth x ≤ c)) ⊎ In v (members_ways ms)
show_back nothing_shown ms c v f h = inr h
show_back (shown i None t) ms c v f h = inr h
show_back (shown i (Some k) t) ms c v f h = put_back k (Some i) t ms c v f h

shows_back : (r : Text → Shown) (ds : List Text) (ms : MarkedMembers) (c : ℕ) (v : Way) → map_depth (show_members r ds ms) ≤ c → In v (members_ways (show_members r ds ms)) → FromShown r c v ⊎ In v (members_ways ms)
shows_back r [] ms c v f h = inr h
shows_back r (d ∷ ds) ms c v f h =
    ⊎_elim (λ a. inl a)
    (λ b. ⊎_elim (λ x. inl (d, x.0, x.1)) (λ x. inr x) (show_back (r d) ms c v (omega (arith, f, members_keep r ds (show_member (r d) ms))) b))
    (shows_back r ds (show_member (r d) ms) c v f h)

element_back : (r : Text → Shown) (o : Option Text) (t : Marked) (es : MarkedElements) (c : ℕ) (v : Way) → (depth (strip t) ≤ c → In v (ways t) → FromShown r c v)
    → list_depth (open_element r o t es) ≤ c → In v (elements_ways (open_element r o t es)) → FromShown r c v ⊎ (In v (elements_ways es) × (list_depth es ≤ c))
element_back r None t es c v ih f h = ⊎_elim (λ a. inl (ih (omega (arith, f)) a)) (λ b. inr (b, omega (arith, f))) (In-append v (ways t) (elements_ways es) h)
element_back r (Some d) t es c v ih f h = go (r d) refl f h
  where
    go : (x : Shown) → r d ≡ x → list_depth (show_element x es) ≤ c → In v (elements_ways (show_element x es)) → FromShown r c v ⊎ (In v (elements_ways es) × (list_depth es ≤ c))
    go nothing_shown e f h = inr (h, f)
    go (shown i None u) e f h =
        ⊎_elim (λ a. inl (d, subst (λ z. In v (shown_ways z)) (sym e) a, subst (λ z. shown_depth z ≤ c) (sym e) (omega (arith, f)))) (λ b. inr (b, omega (arith, f)))
        (In-append v (way_of (Some i) (ways u)) (elements_ways es) h)
    go (shown i (Some l) u) e f h = inr (h, f)

member_back : (r : Text → Shown) (k : Text) (b : Bool) (t : Marked) (ms : MarkedMembers) (c : ℕ) (v : Way) → (depth (strip t) ≤ c → In v (ways t) → FromShown r c v)
    → map_depth (cond b ms (marked_member k None t ms)) ≤ c → In v (members_ways (cond b ms (marked_member k None t ms))) → FromShown r c v ⊎ (In v (members_ways ms) × (map_depth ms ≤ c))
member_back r k true t ms c v ih f h = inr (h, f)
member_back r k false t ms c v ih f h = ⊎_elim (λ a. inl (ih (omega (arith, f)) a)) (λ b. inr (b, omega (arith, f))) (In-append v (ways t) (members_ways ms) h)

mutual
  tree_back : (r : Text → Shown) (t : Tree) (c : ℕ) (v : Way) → depth (strip (open_tree r t)) ≤ c → In v (ways (open_tree r t)) → FromShown r c v
  tree_back r (leaf l) c v f h = elim h [ ]
  tree_back r (array es) c v f h = elements_back r es c v (omega (arith, f)) h
  tree_back r (object ms) c v f h =
      ⊎_elim (λ a. a) (λ b. members_back r ms c v (omega (arith, f, members_keep r (sd_texts ms) (open_members r ms))) b)
      (shows_back r (sd_texts ms) (open_members r ms) c v (omega (arith, f)) h)

  elements_back : (r : Text → Shown) (es : Elements) (c : ℕ) (v : Way) → list_depth (open_elements r es) ≤ c → In v (elements_ways (open_elements r es)) → FromShown r c v
  elements_back r no_elements c v f h = elim h [ ]
  elements_back r (element t es) c v f h =
      ⊎_elim (λ a. a) (λ b. elements_back r es c v b.1 b.0) (element_back r (element_digest t) (open_tree r t) (open_elements r es) c v (λ g x. tree_back r t c v g x) f h)

  members_back : (r : Text → Shown) (ms : Members) (c : ℕ) (v : Way) → map_depth (open_members r ms) ≤ c → In v (members_ways (open_members r ms)) → FromShown r c v
  members_back r no_members c v f h = elim h [ ]
  members_back r (member k t ms) c v f h =
      ⊎_elim (λ a. a) (λ b. members_back r ms c v b.1 b.0) (member_back r k (bytes_eq k sd_name) (open_tree r t) (open_members r ms) c v (λ g x. tree_back r t c v g x) f h)

-- ---- the values of disclosures that are shown

module _ (p : Tree) (g : List Given) (ok : IsReferencedOnce p g) (c : ℕ) where
  abbrev full : Text → Shown
  full = reveal (length g) g

  -- the disclosure of this number, whose value is opened no deeper
  abbrev pub IsShallow : ℕ → Type 0
  IsShallow i = (x : Given) × StandsAt g i x × (depth (strip (opened (length g) g x.value)) ≤ c)

  pub shallow_at : (above : List ℕ) (i : ℕ) (t : Tree) → depth (strip (opened (length g) g t)) ≤ c → In (i, above) (ways (opened (length g) g t)) → IsShallow i
  shallow_at [] i t f m =
      let l = tree_back full t c (i, []) f m in
      let b = shown_from p g ok (λ z. shown_depth z ≤ c) l.0 (i, []) l.1 l.2 in
      ⊎_elim (λ e. subst IsShallow (sym e.0) (b.x, b.there, b.fine)) (λ r. let bad : ◌≡◌ {A = List ℕ} [] (b.k ∷ r.0) = r.1 in cc)
      (way_step b.k i [] (ways (opened (length g) g b.x.value)) b.way)
  shallow_at (a ∷ above) i t f m =
      let l = tree_back full t c (i, a ∷ above) f m in
      let b = shown_from p g ok (λ z. shown_depth z ≤ c) l.0 (i, a ∷ above) l.1 l.2 in
      ⊎_elim (λ e. subst IsShallow (sym e.0) (b.x, b.there, b.fine))
      (λ r.
      let same : above ≡ r.0 = let q : a ∷ above ≡ b.k ∷ r.0 = r.1 in cc in
      shallow_at above i b.x.value b.fine (subst (λ z. In (i, z) (ways (opened (length g) g b.x.value))) (sym same) r.2))
      (way_step b.k i (a ∷ above) (ways (opened (length g) g b.x.value)) b.way)

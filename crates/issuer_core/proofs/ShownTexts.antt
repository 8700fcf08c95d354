-- What is so of the texts of an opened tree is so of those of what is shown in it, and of the tree itself, if it is of its digests.
use Rattle.std.proofs.Common.{◌≡◌, ℕ, suc, List, [], ◌∷◌, ◌++◌, map, length, Bool, true, false, cond, ◌⊎◌, inl, inr, ⊎_elim, Option, Some, None, IfSome, Ordering, Less, Equal, Greater, refl, sym, subst}
use Rattle.std.specs.Prelude.{bytes_eq, option_and_then, option_map, unwrap_or, if◌then◌else◌}
use Rattle.std.specs.Ordering.{match_ordering, nat_cmp}
use Rattle.std.specs.Cmp.Lexicographic.{slice_cmp}
use Rattle.sd_outside.specs.Lists.{StandsAt, In}
use Rattle.claim_tree.specs.Tree.{null, flag, whole, text, Text, Tree, leaf, array, object, Elements, no_elements, element, Members, no_members, member, names, text_of, IsOrdered, ElementsOrdered, MembersOrdered}
use Rattle.claim_tree.proofs.Everywheres.{EachElementIn, EachMemberIn}
use Rattle.sd_outside.proofs.Lists.{In-append, In-left, In-right, In-map, bytes_same}
use Rattle.digest_sites.specs.Given.{Given}
use Rattle.digest_sites.specs.Reserved.{sd_name, dots_name, sd_texts, text_list, texts_of, element_digest}
use Rattle.digest_sites.specs.Sites.{Site, to_member, to_element, sites, element_sites, member_sites, sites_on, own_site, element_site, under}
use Rattle.marked_tree.specs.Marked.{Marked, MarkedElements, MarkedMembers, marked_member, no_marked_members, put, strip, strip_elements, strip_members}
use Rattle.marked_tree.specs.Ways.{ways, elements_ways, members_ways, way_of}
use Rattle.marked_tree.proofs.Puts.{IsBeforeAll-not_in}
use Rattle.rebuild_core.specs.Opening.{Shown, nothing_shown, shown, reveal, open_tree, open_elements, open_members, open_element, show_members, show_element, show_member, opened}
use Rattle.rebuild_core.specs.Soundness.{IsReferencedOnce}
use Rattle.rebuild_core.proofs.ShownBy.{way_step, shown_from}
use Rattle.rebuild_core.proofs.ShownPuts.{shows_each}
use Rattle.marked_tree.proofs.Spots.{Way}
use Rattle.rebuild_core.proofs.Marks.{shown_ways}
use Rattle.issuer_core.specs.Issued.{IsDigestList, HasDigestLists}
use Rattle.issuer_core.proofs.LaidLists.{IsSdList}
use Rattle.issuer_core.specs.GoodOrder.{TextIs, EachText}
use Rattle.issuer_core.proofs.EachTexts.{ElementsEach, MembersEach, AllTexts, OwnTexts}

module _ (P : Text → Type 0) (ours : OwnTexts P) where
  -- ---- what is shown

  abbrev pub ShownTexts : Shown → Type 0
  ShownTexts nothing_shown = Unit {0}
  ShownTexts (shown i name u) = IfSome name P × EachText P (strip u)

  -- the way is one of what some digest shows, whose texts are so
  abbrev pub FromShown : (Text → Shown) → Way → Type 0
  FromShown r v = (d : Text) × In v (shown_ways (r d)) × ShownTexts (r d)

  put_back : (k : Text) (i : Option ℕ) (t : Marked) (ms : MarkedMembers) (v : Way) → MembersEach P (strip_members (put k i t ms)) → In v (members_ways (put k i t ms))
      → (In v (way_of i (ways t)) × (P k × EachText P (strip t))) ⊎ In v (members_ways ms)
  put_back k i t no_marked_members v f h = ⊎_elim (λ a. inl (a, (f.0, f.1))) (λ b. absurd b) (In-append v (way_of i (ways t)) [] h)
  put_back k i t (marked_member l j u ms) v f h = go (slice_cmp nat_cmp k l) f h (put_back k i t ms v)
    where
      go : (o : Ordering) → MembersEach P (strip_members (match_ordering o (marked_member k i t (marked_member l j u ms)) (marked_member l j u ms) (marked_member l j u (put k i t ms))))
          → In v (members_ways (match_ordering o (marked_member k i t (marked_member l j u ms)) (marked_member l j u ms) (marked_member l j u (put k i t ms))))
          → (MembersEach P (strip_members (put k i t ms)) → In v (members_ways (put k i t ms)) → (In v (way_of i (ways t)) × (P k × EachText P (strip t))) ⊎ In v (members_ways ms))
          → (In v (way_of i (ways t)) × (P k × EachText P (strip t))) ⊎ In v (members_ways (marked_member l j u ms))
      go Less f m ih = ⊎_elim (λ a. inl (a, (f.0, f.1))) (λ b. inr b) (In-append v (way_of i (ways t)) (members_ways (marked_member l j u ms)) m)
      go Equal f m ih = inr m
      go Greater f m ih =
          ⊎_elim (λ a. inr (In-left v (way_of j (ways u)) (members_ways ms) a))
          (λ b. ⊎_elim (λ c. inl c) (λ c. inr (In-right v (way_of j (ways u)) (members_ways ms) c)) (ih f.2 b))
          (In-append v (way_of j (ways u)) (members_ways (put k i t ms)) m)

  shows_texts : (r : Text → Shown) (ds : List Text) (ms : MarkedMembers) → MembersEach P (strip_members (show_members r ds ms)) → MembersEach P (strip_members ms)
  shows_texts r ds ms f = shows_each (TextIs P) (λ _. Unit {0}) (λ name _. P name) r ds ms f

  show_back : (x : Shown) (ms : MarkedMembers) (v : Way) → MembersEach P (strip_members (show_member x ms)) → In v (members_ways (show_member x ms)) → (In v (shown_ways x) × ShownTexts x) ⊎ In v (members_ways ms)
  show_back nothing_shown ms v f h = inr h
  show_back (shown i None t) ms v f h = inr h
  show_back (shown i (Some k) t) ms v f h = put_back k (Some i) t ms v f h

  shows_back : (r : Text → Shown) (ds : List Text) (ms : MarkedMembers) (v : Way) → MembersEach P (strip_members (show_members r ds ms)) → In v (members_ways (show_members r ds ms)) → FromShown r v ⊎ In v (members_ways ms)
  shows_back r [] ms v f h = inr h
  shows_back r (d ∷ ds) ms v f h =
      ⊎_elim (λ a. inl a)
      (λ b. ⊎_elim (λ c. inl (d, c.0, c.1)) (λ c. inr c) (show_back (r d) ms v (shows_texts r ds (show_member (r d) ms) f) b))
      (shows_back r ds (show_member (r d) ms) v f h)

  element_back : (r : Text → Shown) (o : Option Text) (t : Marked) (es : MarkedElements) (v : Way) → (EachText P (strip t) → In v (ways t) → FromShown r v)
      → ElementsEach P (strip_elements (open_element r o t es)) → In v (elements_ways (open_element r o t es)) → FromShown r v ⊎ (In v (elements_ways es) × ElementsEach P (strip_elements es))
  element_back r None t es v ih f h = ⊎_elim (λ a. inl (ih f.0 a)) (λ b. inr (b, f.1)) (In-append v (ways t) (elements_ways es) h)
  element_back r (Some d) t es v ih f h = go (r d) refl f h
    where
      go : (x : Shown) → r d ≡ x → ElementsEach P (strip_elements (show_element x es)) → In v (elements_ways (show_element x es)) → FromShown r v ⊎ (In v (elements_ways es) × ElementsEach P (strip_elements es))
      go nothing_shown e f h = inr (h, f)
      go (shown i None u) e f h =
          ⊎_elim (λ a. inl (d, subst (λ z. In v (shown_ways z)) (sym e) a, subst ShownTexts (sym e) (tt, f.0))) (λ b. inr (b, f.1)) (In-append v (way_of (Some i) (ways u)) (elements_ways es) h)
      go (shown i (Some l) u) e f h = inr (h, f)

  member_back : (r : Text → Shown) (k : Text) (b : Bool) (t : Marked) (ms : MarkedMembers) (v : Way) → (EachText P (strip t) → In v (ways t) → FromShown r v)
      → MembersEach P (strip_members (cond b ms (marked_member k None t ms))) → In v (members_ways (cond b ms (marked_member k None t ms))) → FromShown r v ⊎ (In v (members_ways ms) × MembersEach P (strip_members ms))
  member_back r k true t ms v ih f h = inr (h, f)
  member_back r k false t ms v ih f h = ⊎_elim (λ a. inl (ih f.1 a)) (λ b. inr (b, f.2)) (In-append v (ways t) (members_ways ms) h)

  mutual
    texts_back : (r : Text → Shown) (t : Tree) (v : Way) → EachText P (strip (open_tree r t)) → In v (ways (open_tree r t)) → FromShown r v
    texts_back r (leaf l) v f h = elim h [ ]
    texts_back r (array es) v f h = elements_texts_back r es v f.1 h
    texts_back r (object ms) v f h =
        ⊎_elim (λ a. a) (λ b. members_texts_back r ms v (shows_texts r (sd_texts ms) (open_members r ms) f) b) (shows_back r (sd_texts ms) (open_members r ms) v f h)

    elements_texts_back : (r : Text → Shown) (es : Elements) (v : Way) → ElementsEach P (strip_elements (open_elements r es)) → In v (elements_ways (open_elements r es)) → FromShown r v
    elements_texts_back r no_elements v f h = elim h [ ]
    elements_texts_back r (element t es) v f h =
        ⊎_elim (λ a. a) (λ b. elements_texts_back r es v b.1 b.0) (element_back r (element_digest t) (open_tree r t) (open_elements r es) v (λ g x. texts_back r t v g x) f h)

    members_texts_back : (r : Text → Shown) (ms : Members) (v : Way) → MembersEach P (strip_members (open_members r ms)) → In v (members_ways (open_members r ms)) → FromShown r v
    members_texts_back r no_members v f h = elim h [ ]
    members_texts_back r (member k t ms) v f h =
        ⊎_elim (λ a. a) (λ b. members_texts_back r ms v b.1 b.0) (member_back r k (bytes_eq k sd_name) (open_tree r t) (open_members r ms) v (λ g x. texts_back r t v g x) f h)

  -- ---- the tree itself

  -- so is each digest at a site
  abbrev pub SitesAre : List Site → Type 0
  SitesAre ss = (s : Site) → In s ss → P s.digest

  text_leaf : (t : Tree) (s : Text) → text_of t ≡ Some s → P s → EachText P t
  text_leaf (leaf (text x)) s e u = let same : x ≡ s = cc e in subst P (sym same) u
  text_leaf (leaf null) s e u = cc e
  text_leaf (leaf (flag b)) s e u = cc e
  text_leaf (leaf (whole z)) s e u = cc e
  text_leaf (array es) s e u = cc e
  text_leaf (object ms) s e u = cc e

  digest_texts : (t : Tree) (d : Text) → element_digest t ≡ Some d → P d → EachText P t
  digest_texts (leaf l) d e u = cc e
  digest_texts (array es) d e u = cc e
  digest_texts (object no_members) d e u = cc e
  digest_texts (object (member k t (member l x ms))) d e u = cc e
  digest_texts (object (member k t no_members)) d e u = go (bytes_eq k dots_name) refl e
    where
      go : (b : Bool) → bytes_eq k dots_name ≡ b → (if b then text_of t else None) ≡ Some d → EachText P (object (member k t no_members))
      go true q e = (subst P (sym (bytes_same k dots_name q)) ours.dots, text_leaf t d e u, tt)
      go false q e = cc e

  list_texts : (es : Elements) (ds : List Text) → texts_of es ≡ Some ds → AllTexts P ds → ElementsEach P es
  list_texts no_elements ds e all = tt
  list_texts (element t es) ds e all = go (text_of t) refl (texts_of es) refl e (λ ss z each. list_texts es ss z each)
    where
      go : (o : Option Text) → text_of t ≡ o → (os : Option (List Text)) → texts_of es ≡ os → option_and_then (λ s. option_map (λ ss. s ∷ ss) os) o ≡ Some ds
          → ((ss : List Text) → texts_of es ≡ Some ss → AllTexts P ss → ElementsEach P es) → ElementsEach P (element t es)
      go None q os z e rest = cc e
      go (Some s) q None z e rest = cc e
      go (Some s) q (Some ss) z e rest =
          let same : s ∷ ss ≡ ds = cc e in
          let each : AllTexts P (s ∷ ss) = subst (AllTexts P) (sym same) all in
          (text_leaf t s q (each s (inl refl)), rest ss z (λ d m. each d (inr m)))

  digests_texts : (t : Tree) (ds : List Text) → text_list t ≡ Some ds → AllTexts P ds → EachText P t
  digests_texts (array es) ds e all = (tt, list_texts es ds e all)
  digests_texts (leaf l) ds e all = cc e
  digests_texts (object ms) ds e all = cc e

  no_sd : (ms : Members) → (In sd_name (names ms) → ⊥) → sd_texts ms ≡ []
  no_sd no_members out = refl
  no_sd (member l u ms) out = go (bytes_eq l sd_name) refl (no_sd ms (λ m. out (inr m)))
    where
      go : (b : Bool) → bytes_eq l sd_name ≡ b → sd_texts ms ≡ [] → (if b then unwrap_or (text_list u) [] else sd_texts ms) ≡ []
      go true q ih = absurd (out (inl (sym (bytes_same l sd_name q))))
      go false q ih = ih

  element_fine : (r : Text → Shown) (i : ℕ) (t : Tree) (es : Elements) (o : Option Text) → element_digest t ≡ o → SitesAre (sites_on (to_element i) o (sites t))
      → (SitesAre (sites t) → EachText P (strip (open_tree r t)) → EachText P t) → (ElementsEach P (strip_elements (open_elements r es)) → ElementsEach P es)
      → ElementsEach P (strip_elements (open_element r o (open_tree r t) (open_elements r es))) → EachText P t × ElementsEach P es
  element_fine r i t es None q all one rest f = (one (λ s m. all (under (to_element i) s) (In-map (under (to_element i)) s (sites t) m)) f.0, rest f.1)
  element_fine r i t es (Some d) q all one rest f = (digest_texts t d q (all (element_site (to_element i) d) (inl refl)), rest (left (r d) f))
    where
      left : (x : Shown) → ElementsEach P (strip_elements (show_element x (open_elements r es))) → ElementsEach P (strip_elements (open_elements r es))
      left nothing_shown f = f
      left (shown i None u) f = f.1
      left (shown i (Some l) u) f = f

  member_fine : (r : Text → Shown) (k : Text) (t : Tree) (ms : Members) (b : Bool) → bytes_eq k sd_name ≡ b → (b ≡ true → IsDigestList t) → (b ≡ true → sd_texts ms ≡ [])
      → AllTexts P (if b then unwrap_or (text_list t) [] else sd_texts ms) → SitesAre ((if b then [] else map (under (to_member k)) (sites t)) ++ member_sites ms)
      → (SitesAre (sites t) → EachText P (strip (open_tree r t)) → EachText P t) → (AllTexts P (sd_texts ms) → SitesAre (member_sites ms) → MembersEach P (strip_members (open_members r ms)) → MembersEach P ms)
      → MembersEach P (strip_members (if b then open_members r ms else marked_member k None (open_tree r t) (open_members r ms))) → MembersEach P (member k t ms)
  member_fine r k t ms true q is none own inside one rest f =
      let list = is refl in (
        subst P (sym (bytes_same k sd_name q)) ours.sd,
        digests_texts t (list.0 ∷ list.1) list.2 (λ d m. own d (subst (λ (os : Option (List Text)). In d (unwrap_or os [])) (sym list.2) m)),
        rest (λ d m. absurd (subst (λ (xs : List Text). In d xs) (none refl) m)) inside f,
      )
  member_fine r k t ms false q is none own inside one rest f = (
    f.0,
    one (λ s m. inside (under (to_member k) s) (In-left (under (to_member k) s) (map (under (to_member k)) (sites t)) (member_sites ms) (In-map (under (to_member k)) s (sites t) m))) f.1,
    rest own (λ s m. inside s (In-right s (map (under (to_member k)) (sites t)) (member_sites ms) m)) f.2,
  )

  mutual
    pub texts_fine : (r : Text → Shown) (t : Tree) → IsOrdered t → HasDigestLists t → SitesAre (sites t) → EachText P (strip (open_tree r t)) → EachText P t
    texts_fine r (leaf l) o lists all f = f
    texts_fine r (array es) o lists all f = (tt, elements_fine r 0 es o lists.1 all f.1)
    texts_fine r (object ms) o lists all f =
        members_fine r ms o lists
        (λ d m. all (own_site (names ms) d) (In-left (own_site (names ms) d) (map (own_site (names ms)) (sd_texts ms)) (member_sites ms) (In-map (own_site (names ms)) d (sd_texts ms) m)))
        (λ s m. all s (In-right s (map (own_site (names ms)) (sd_texts ms)) (member_sites ms) m))
        (shows_texts r (sd_texts ms) (open_members r ms) f)

    elements_fine : (r : Text → Shown) (i : ℕ) (es : Elements) → ElementsOrdered es → EachElementIn IsSdList es → SitesAre (element_sites i es) → ElementsEach P (strip_elements (open_elements r es)) → ElementsEach P es
    elements_fine r i no_elements o lists all f = tt
    elements_fine r i (element t es) o lists all f =
        element_fine r i t es (element_digest t) refl
        (λ s m. all s (In-left s (sites_on (to_element i) (element_digest t) (sites t)) (element_sites (suc i) es) m))
        (λ a g. texts_fine r t o.0 lists.0 a g)
        (λ g. elements_fine r (suc i) es o.1 lists.1 (λ s m. all s (In-right s (sites_on (to_element i) (element_digest t) (sites t)) (element_sites (suc i) es) m)) g) f

    members_fine : (r : Text → Shown) (ms : Members) → MembersOrdered ms → EachMemberIn IsSdList ms → AllTexts P (sd_texts ms) → SitesAre (member_sites ms) → MembersEach P (strip_members (open_members r ms)) → MembersEach P ms
    members_fine r no_members o lists own inside f = tt
    members_fine r (member k t ms) o lists own inside f =
        member_fine r k t ms (bytes_eq k sd_name) refl lists.0
        (λ e. no_sd ms (λ m. IsBeforeAll-not_in k (names ms) o.0 (subst (λ (n : Text). In n (names ms)) (sym (bytes_same k sd_name e)) m)))
        own inside (λ a g. texts_fine r t o.1 lists.1 a g) (λ a b g. members_fine r ms o.2 lists.2 a b g) f

  -- ---- the values of disclosures that are shown

  module _ (p : Tree) (g : List Given) (ok : IsReferencedOnce p g) where
    abbrev full : Text → Shown
    full = reveal (length g) g

    -- the disclosure of this number, shown with texts that are so
    abbrev pub HasShownTexts : ℕ → Type 0
    HasShownTexts i = (x : Given) × StandsAt g i x × (IfSome x.name P × EachText P (strip (opened (length g) g x.value)))

    pub shown_texts_at : (above : List ℕ) (i : ℕ) (t : Tree) → EachText P (strip (opened (length g) g t)) → In (i, above) (ways (opened (length g) g t)) → HasShownTexts i
    shown_texts_at [] i t f m =
        let l = texts_back full t (i, []) f m in
        let b = shown_from p g ok ShownTexts l.0 (i, []) l.1 l.2 in
        ⊎_elim (λ e. subst HasShownTexts (sym e.0) (b.x, b.there, b.fine)) (λ r. let bad : ◌≡◌ {A = List ℕ} [] (b.k ∷ r.0) = r.1 in cc)
        (way_step b.k i [] (ways (opened (length g) g b.x.value)) b.way)
    shown_texts_at (c ∷ above) i t f m =
        let l = texts_back full t (i, c ∷ above) f m in
        let b = shown_from p g ok ShownTexts l.0 (i, c ∷ above) l.1 l.2 in
        ⊎_elim (λ e. subst HasShownTexts (sym e.0) (b.x, b.there, b.fine))
        (λ r.
        let same : above ≡ r.0 = let q : c ∷ above ≡ b.k ∷ r.0 = r.1 in cc in
        shown_texts_at above i b.x.value b.fine.1 (subst (λ z. In (i, z) (ways (opened (length g) g b.x.value))) (sym same) r.2))
        (way_step b.k i (c ∷ above) (ways (opened (length g) g b.x.value)) b.way)

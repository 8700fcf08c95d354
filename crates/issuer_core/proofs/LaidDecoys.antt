-- Each decoy stands at its place: in the object, or behind the elements of the list.
use Rattle.std.proofs.Common.{◌≡◌, ℕ, zero, suc, ◌+◌, List, [], ◌∷◌, ◌++◌, Bool, Equal, Greater, Less, None, Option, Ordering, Some, ap, append-nil, append_assoc, ap₂, arith, cond, decimal, false, inl, inr, map, refl, subst, sym, true, ⊎_elim, ◌∙◌, ◌⊎◌}
use Rattle.std.specs.Cmp.Lexicographic.{slice_cmp}
use Rattle.std.specs.Ordering.{match_ordering, nat_cmp}
use Rattle.std.specs.Prelude.{bytes_eq, option_and_then, unwrap_or}
use Rattle.sd_outside.specs.Lists.{StandsAt, In}
use Rattle.claim_tree.specs.Path.{element_on, tree_at}
use Rattle.claim_tree.specs.Tree.{Text, Tree, elements_len, member_named, names}
use Rattle.digest_sites.specs.Given.{Given}
use Rattle.digest_sites.specs.Reserved.{element_digest, sd_name, sd_texts}
use Rattle.digest_sites.specs.Sites.{Site, Step, element_site, element_sites, member_sites, own_site, sites, sites_on, step_text, to_element, to_member, under}
use Rattle.marked_tree.specs.Marked.{Marked, MarkedElements, MarkedMembers, marked_array, marked_element, marked_leaf, marked_member, marked_object, no_marked_elements, no_marked_members, strip, strip_elements, strip_members}
use Rattle.marked_tree.specs.Ways.{mark_weight, only, weight}
use Rattle.marked_tree.specs.Paths.{Path, Spot, elements_spots, inside, is_among, members_spots, own_spot, mark_path, spots}
use Rattle.rebuild_core.specs.Reached.{OwnedSite, all_sites, owned_site, payload, value_sites, value_of}
use Rattle.issuer_core.specs.Closing.{ClosesFrom, ElementsClose, HasNumber, MembersClose, one}
use Rattle.issuer_core.specs.Decoys.{decoys_of, earlier}
use Rattle.issuer_core.specs.Digests.{Maker, hidden_of, marked_claims}
use Rattle.issuer_core.specs.GoodOrder.{HoldsOthers, IsGoodOrder}
use Rattle.issuer_core.specs.Issued.{DecoysStand, IsDecoySite, origin}
use Rattle.issuer_core.specs.Laid.{IsLaid, digest_elements, digest_object, hidden_digests, laid_elements, laid_given, laid_members, lay, lay_elements, lay_members, order_decoys, own_given, sorted, sorted_with, with_sd}
use Rattle.issuer_core.specs.Laws.{LaidIsIssued}
use Rattle.issuer_core.specs.Order.{Order}
use Rattle.sd_outside.proofs.Lists.{At-In, At-below, In-left, In-map, In-right, bytes_same}
use Rattle.marked_tree.proofs.MarkFacts.{mark_strips_holds, marks_once_holds, up_to_le}
use Rattle.marked_tree.proofs.Spots.{first_is, spots_weigh}
use Rattle.rebuild_core.proofs.Chains.{item_of_value}
use Rattle.issuer_core.proofs.Closing.{items_length, order_closes}
use Rattle.issuer_core.proofs.DecoyPlaces.{earlier_at, held_at}
use Rattle.issuer_core.proofs.ItemNumbers.{Holds, parts}
use Rattle.issuer_core.proofs.LaidIssued.{issued}
use Rattle.issuer_core.proofs.Plain.{ElementsPlain, IsPlain, MembersPlain, marked_plain}
use Rattle.issuer_core.proofs.SdMembers.{digest_read, laid_no_digest, lay_has_no, with_sd_sites, with_sd_texts}

insert_has : (d : Text) (ds : List Text) (e : Text) → (e ≡ d) ⊎ In e ds → In e (sorted_with d ds)
insert_has d [] e (inl q) = inl q
insert_has d [] e (inr m) = elim m [ ]
insert_has d (c ∷ ds) e h = go (slice_cmp nat_cmp d c) h (insert_has d ds e)
  where
    go : (o : Ordering) → (e ≡ d) ⊎ In e (c ∷ ds) → ((e ≡ d) ⊎ In e ds → In e (sorted_with d ds)) → In e (match_ordering o (d ∷ c ∷ ds) (d ∷ c ∷ ds) (c ∷ sorted_with d ds))
    go Less m ih = m
    go Equal m ih = m
    go Greater (inl q) ih = inr (ih (inl q))
    go Greater (inr (inl q)) ih = inl q
    go Greater (inr (inr m)) ih = inr (ih (inr m))

sort_has : (ds : List Text) (e : Text) → In e ds → In e (sorted ds)
sort_has [] e m = m
sort_has (d ∷ ds) e m = insert_has d (sorted ds) e (⊎_elim (λ q. inl q) (λ z. inr (sort_has ds e z)) m)

-- ---- the walk

module _ (p : Tree) (g : List Given) (dg : ℕ → Text) (M : Marked) where
  -- each of the sites is an item whose origin lies below pre
  abbrev Embeds : Path → List Site → Type 0
  Embeds pre ss = (s : Site) → In s ss → (z : OwnedSite) × In z (all_sites p g) × (z.site.digest ≡ s.digest) × (z.site.kind ≡ s.kind) × (origin M z ≡ pre ++ map step_text s.at)

  abbrev Spotted : Path → List Spot → Type 0
  Spotted pre xs = (s : Spot) → In s xs → mark_path M s.mark ≡ Some (pre ++ s.at)

  record Below (pre : Path) (step : Step) (u : Marked) (v : Tree) : Type 0 where
    embeds : Embeds (pre ++ (step_text step ∷ [])) (sites v)
    spotted : Spotted (pre ++ (step_text step ∷ [])) (spots u)

  -- a hidden node is no site above, but its value is that of a disclosure
  descend : (step : Step) (pre : Path) (k : Option ℕ) (n : ℕ) (name : Option Text) (u : Marked) (v : Tree) → HasNumber k n → (k ≡ None → Embeds pre (map (under step) (sites v)))
      → Spotted pre (own_spot (step_text step) k ++ map (inside (step_text step) k) (spots u)) → Holds g n (own_given dg name k v) → Below pre step u v
  descend step pre k n name u v is emb sp own = record {
    embeds = go k is emb sp own;
    spotted = λ s m.
        sp (inside (step_text step) k s) (In-right (inside (step_text step) k s) (own_spot (step_text step) k) (map (inside (step_text step) k) (spots u)) (In-map (inside (step_text step) k) s (spots u) m))
        ∙ ap Some (sym (append_assoc pre (step_text step ∷ []) s.at));
  }
    where
      go : (k : Option ℕ) → HasNumber k n → (k ≡ None → Embeds pre (map (under step) (sites v))) → Spotted pre (own_spot (step_text step) k ++ map (inside (step_text step) k) (spots u)) → Holds g n (own_given dg name k v)
          → Embeds (pre ++ (step_text step ∷ [])) (sites v)
      go None is emb sp own s m = let w = emb refl (under step s) (In-map (under step) s (sites v) m) in (w.0, w.1, w.2, w.3, w.4 ∙ sym (append_assoc pre (step_text step ∷ []) (map step_text s.at)))
      go (Some j) is emb sp own s m =
          let x : Given = record { digest = dg j; name = name; value = v } in
          let a : StandsAt g j x = subst (λ z. StandsAt g z x) (let e : n + 0 ≡ j = omega (arith, is) in e) (own 0 x refl) in
          let at_place = sp (record { mark = j; at = step_text step ∷ []; above = [] }) (inl refl) in (
            owned_site (value_of j) s,
            In-right (owned_site (value_of j) s) (map (owned_site payload) (sites p)) (value_sites (λ x. true) 0 g) (item_of_value (λ x. true) g 0 j j x s (omega arith) a refl m),
            refl,
            refl,
            ap (λ o. unwrap_or o [] ++ map step_text s.at) at_place,
          )

  embeds_element : (k : Option ℕ) (pre : Path) (dec : Path → List Text) (i : ℕ) (u : Marked) (es : MarkedElements) → IsPlain u → Embeds pre (element_sites i (lay_elements dec dg i (marked_element k u es)))
      → (k ≡ None → Embeds pre (map (under (to_element i)) (sites (lay (λ q. dec (decimal i ∷ q)) dg u)))) × Embeds pre (element_sites (suc i) (lay_elements dec dg (suc i) es))
  embeds_element (Some j) pre dec i u es plain emb = (
    (λ e. cc),
    (λ s m. emb s (In-right s (sites_on (to_element i) (element_digest (digest_object (dg j))) (sites (digest_object (dg j)))) (element_sites (suc i) (lay_elements dec dg (suc i) es)) m)),
  )
  embeds_element None pre dec i u es plain emb =
      let v = lay (λ q. dec (decimal i ∷ q)) dg u in
      let none = laid_no_digest (λ q. dec (decimal i ∷ q)) dg u plain in (
        (λ e s m. emb s (In-left s (sites_on (to_element i) (element_digest v) (sites v)) (element_sites (suc i) (lay_elements dec dg (suc i) es))
            (subst (λ o. In s (sites_on (to_element i) o (sites v))) (sym none) m))),
        (λ s m. emb s (In-right s (sites_on (to_element i) (element_digest v) (sites v)) (element_sites (suc i) (lay_elements dec dg (suc i) es)) m)),
      )

  embeds_member : (k : Option ℕ) (pre : Path) (dec : Path → List Text) (name : Text) (u : Marked) (ms : MarkedMembers) → bytes_eq name sd_name ≡ false → Embeds pre (member_sites (lay_members dec dg (marked_member name k u ms)))
      → (k ≡ None → Embeds pre (map (under (to_member name)) (sites (lay (λ q. dec (name ∷ q)) dg u)))) × Embeds pre (member_sites (lay_members dec dg ms))
  embeds_member (Some j) pre dec name u ms f emb = ((λ e. cc), emb)
  embeds_member None pre dec name u ms f emb =
      let v = lay (λ q. dec (name ∷ q)) dg u in (
        (λ e s m. emb s (In-left s (cond (bytes_eq name sd_name) [] (map (under (to_member name)) (sites v))) (member_sites (lay_members dec dg ms)) (subst (λ c. In s (cond c [] (map (under (to_member name)) (sites v)))) (sym f) m))),
        (λ s m. emb s (In-right s (cond (bytes_eq name sd_name) [] (map (under (to_member name)) (sites v))) (member_sites (lay_members dec dg ms)) m)),
      )

  -- the decoys of a list come after its elements
  at_decoys : (ds : List Text) (i e : ℕ) (d : Text) → StandsAt ds e d → In (element_site (to_element (i + e)) d) (element_sites i (digest_elements ds))
  at_decoys (c ∷ ds) i zero d a =
      let x : i + 0 ≡ i = omega arith in
      In-left (element_site (to_element (i + 0)) d) (sites_on (to_element i) (element_digest (digest_object c)) (sites (digest_object c))) (element_sites (suc i) (digest_elements ds))
      (subst (λ o. In (element_site (to_element (i + 0)) d) (sites_on (to_element i) o (sites (digest_object c)))) (sym (digest_read c)) (inl (ap₂ (λ (n : ℕ) (z : Text). element_site (to_element n) z) x a)))
  at_decoys (c ∷ ds) i (suc e) d a =
      let x : suc i + e ≡ i + suc e = omega arith in
      In-right (element_site (to_element (i + suc e)) d) (sites_on (to_element i) (element_digest (digest_object c)) (sites (digest_object c))) (element_sites (suc i) (digest_elements ds))
      (subst (λ n. In (element_site (to_element n) d) (element_sites (suc i) (digest_elements ds))) x (at_decoys ds (suc i) e d a))
  at_decoys [] i e d a = elim a [ ]

  one_right : (k : Option ℕ) (dec : Path → List Text) (i : ℕ) (u : Marked) (es : MarkedElements) (s : Site) → In s (element_sites (suc i) (lay_elements dec dg (suc i) es)) → In s (element_sites i (lay_elements dec dg i (marked_element k u es)))
  one_right (Some j) dec i u es s m = In-right s (sites_on (to_element i) (element_digest (digest_object (dg j))) (sites (digest_object (dg j)))) (element_sites (suc i) (lay_elements dec dg (suc i) es)) m
  one_right None dec i u es s m =
      let v = lay (λ q. dec (decimal i ∷ q)) dg u in
      In-right s (sites_on (to_element i) (element_digest v) (sites v)) (element_sites (suc i) (lay_elements dec dg (suc i) es)) m

  after_all : (dec : Path → List Text) (i : ℕ) (es : MarkedElements) (e : ℕ) (d : Text) → StandsAt (dec []) e d
      → In (element_site (to_element (i + (elements_len (strip_elements es) + e))) d) (element_sites i (lay_elements dec dg i es))
  after_all dec i no_marked_elements e d a =
      let x : i + e ≡ i + (0 + e) = omega arith in
      subst (λ n. In (element_site (to_element n) d) (element_sites i (digest_elements (dec [])))) x (at_decoys (dec []) i e d a)
  after_all dec i (marked_element k t es) e d a =
      let len = elements_len (strip_elements es) in
      let x : suc i + (len + e) ≡ i + (suc len + e) = omega arith in
      subst (λ c. In (element_site (to_element c) d) (element_sites i (lay_elements dec dg i (marked_element k t es)))) x
      (one_right k dec i t es (element_site (to_element (suc i + (len + e))) d) (after_all dec (suc i) es e d a))

  abbrev Standing : Text → Path → ℕ → Option Tree → Type 0
  Standing d q e o = (z : OwnedSite) × In z (all_sites p g) × (z.site.digest ≡ d) × IsDecoySite M z q e o

  restep : (d : Text) (pre : Path) (k l : Text) (r : Path) (e : ℕ) (o : Option Tree) → bytes_eq l k ≡ true → Standing d ((pre ++ (l ∷ [])) ++ r) e o → Standing d (pre ++ (k ∷ r)) e o
  restep d pre k l r e o h s = subst (λ q. Standing d q e o) (append_assoc pre (l ∷ []) r ∙ ap (λ c. pre ++ (c ∷ r)) (bytes_same l k h)) s

  mutual
    pub decoy_there : (r : Path) (m : Marked) (dec : Path → List Text) (n : ℕ) (pre : Path) → IsPlain m → ClosesFrom n m → HoldsOthers (tree_at (strip m) r)
        → Embeds pre (sites (lay dec dg m)) → Spotted pre (spots m) → Holds g n (laid_given dec dg m)
        → (e : ℕ) (d : Text) → StandsAt (dec r) e d → Standing d (pre ++ r) e (tree_at (strip m) r)
    decoy_there [] (marked_leaf l) dec n pre plain is holds emb sp all e d a = absurd holds
    decoy_there [] (marked_array es) dec n pre plain is holds emb sp all e d a =
        let len = elements_len (strip_elements es) in
        let x : 0 + (len + e) ≡ len + e = omega arith in
        let w = emb (element_site (to_element (0 + (len + e))) d) (after_all dec 0 es e d a) in
        (w.0, w.1, w.2, (w.3, w.4 ∙ ap₂ (λ (q : Path) (c : ℕ). q ++ (decimal c ∷ [])) (sym (append-nil pre)) x))
    decoy_there [] (marked_object ms) dec n pre plain is holds emb sp all e d a =
        let ds = hidden_digests dg ms ++ dec [] in
        let new = with_sd (sorted ds) (lay_members dec dg ms) in
        let there : In d (sd_texts new) = subst (λ (zs : List Text). In d zs) (sym (with_sd_texts (sorted ds) (lay_members dec dg ms) (lay_has_no sd_name (λ k a c. a) dec dg ms plain)))
        (sort_has ds d (In-right d (hidden_digests dg ms) (dec []) (At-In (dec []) e d a))) in
        let w = emb (own_site (names new) d) (In-left (own_site (names new) d) (map (own_site (names new)) (sd_texts new)) (member_sites new) (In-map (own_site (names new)) d (sd_texts new) there)) in
        (w.0, w.1, w.2, (w.3, w.4))
    decoy_there (k ∷ r) (marked_leaf l) dec n pre plain is holds emb sp all e d a = absurd holds
    decoy_there (k ∷ r) (marked_array es) dec n pre plain is holds emb sp all e d a = element_there k r 0 es dec n pre plain is holds emb sp all e d a
    decoy_there (k ∷ r) (marked_object ms) dec n pre plain is holds emb sp all e d a =
        let ds = sorted (hidden_digests dg ms ++ dec []) in
        let new = with_sd ds (lay_members dec dg ms) in
        member_there k r ms dec n pre plain is holds
        (λ s i. emb s (In-right s (map (own_site (names new)) (sd_texts new)) (member_sites new)
        (subst (λ (zs : List Site). In s zs) (sym (with_sd_sites ds (lay_members dec dg ms) (lay_has_no sd_name (λ k a c. a) dec dg ms plain))) i)))
        sp all e d a

    element_there : (k : Text) (r : Path) (i : ℕ) (es : MarkedElements) (dec : Path → List Text) (n : ℕ) (pre : Path) → ElementsPlain es → ElementsClose n es
        → HoldsOthers (option_and_then (λ z. tree_at z r) (element_on (strip_elements es) i k))
        → Embeds pre (element_sites i (lay_elements dec dg i es)) → Spotted pre (elements_spots i es) → Holds g n (laid_elements dec dg i es)
        → (e : ℕ) (d : Text) → StandsAt (dec (k ∷ r)) e d → Standing d (pre ++ (k ∷ r)) e (option_and_then (λ z. tree_at z r) (element_on (strip_elements es) i k))
    element_there k r i no_marked_elements dec n pre plain is holds emb sp all e d a = absurd holds
    element_there k r i (marked_element j t es) dec n pre plain is holds emb sp all e d a =
        let s : Path → List Text = λ q. dec (decimal i ∷ q) in
        let v = lay s dg t in
        let own = own_spot (decimal i) j ++ map (inside (decimal i) j) (spots t) in
        let w = parts (StandsAt g) dg n (weight one t) j None v (laid_given s dg t) (laid_elements dec dg (suc i) es) (items_length s dg t) all in
        let embs = embeds_element j pre dec i t es plain.0 emb in
        let down = descend (to_element i) pre j (n + weight one t) None t v is.1 embs.0 (λ c m. sp c (In-left c own (elements_spots (suc i) es) m)) w.own in
        go (bytes_eq (decimal i) k) refl holds
        (λ x. λ y. decoy_there r t s n (pre ++ (decimal i ∷ [])) plain.0 is.0 x down.embeds down.spotted w.inner e d y)
        (λ x. element_there k r (suc i) es dec (n + (mark_weight one j + weight one t)) pre plain.1 is.2 x embs.1 (λ c m. sp c (In-right c own (elements_spots (suc i) es) m)) w.rest e d a)
      where
        go : (c : Bool) → bytes_eq (decimal i) k ≡ c → HoldsOthers (option_and_then (λ z. tree_at z r) (cond c (Some (strip t)) (element_on (strip_elements es) (suc i) k)))
            → (HoldsOthers (tree_at (strip t) r) → StandsAt (dec (decimal i ∷ r)) e d → Standing d ((pre ++ (decimal i ∷ [])) ++ r) e (tree_at (strip t) r))
            → (HoldsOthers (option_and_then (λ z. tree_at z r) (element_on (strip_elements es) (suc i) k)) → Standing d (pre ++ (k ∷ r)) e (option_and_then (λ z. tree_at z r) (element_on (strip_elements es) (suc i) k)))
            → Standing d (pre ++ (k ∷ r)) e (option_and_then (λ z. tree_at z r) (cond c (Some (strip t)) (element_on (strip_elements es) (suc i) k)))
        go true q x here rest = restep d pre k (decimal i) r e (tree_at (strip t) r) q (here x (subst (λ l. StandsAt (dec (l ∷ r)) e d) (sym (bytes_same (decimal i) k q)) a))
        go false q x here rest = rest x

    member_there : (k : Text) (r : Path) (ms : MarkedMembers) (dec : Path → List Text) (n : ℕ) (pre : Path) → MembersPlain ms → MembersClose n ms
        → HoldsOthers (option_and_then (λ z. tree_at z r) (member_named (strip_members ms) k))
        → Embeds pre (member_sites (lay_members dec dg ms)) → Spotted pre (members_spots ms) → Holds g n (laid_members dec dg ms)
        → (e : ℕ) (d : Text) → StandsAt (dec (k ∷ r)) e d → Standing d (pre ++ (k ∷ r)) e (option_and_then (λ z. tree_at z r) (member_named (strip_members ms) k))
    member_there k r no_marked_members dec n pre plain is holds emb sp all e d a = absurd holds
    member_there k r (marked_member l j t ms) dec n pre plain is holds emb sp all e d a =
        let s : Path → List Text = λ q. dec (l ∷ q) in
        let v = lay s dg t in
        let own = own_spot l j ++ map (inside l j) (spots t) in
        let w = parts (StandsAt g) dg n (weight one t) j (Some l) v (laid_given s dg t) (laid_members dec dg ms) (items_length s dg t) all in
        let embs = embeds_member j pre dec l t ms plain.0 emb in
        let down = descend (to_member l) pre j (n + weight one t) (Some l) t v is.1 embs.0 (λ c m. sp c (In-left c own (members_spots ms) m)) w.own in
        go (bytes_eq l k) refl holds
        (λ x. λ y. decoy_there r t s n (pre ++ (l ∷ [])) plain.3 is.0 x down.embeds down.spotted w.inner e d y)
        (λ x. member_there k r ms dec (n + (mark_weight one j + weight one t)) pre plain.4 is.2 x embs.1 (λ c m. sp c (In-right c own (members_spots ms) m)) w.rest e d a)
      where
        go : (c : Bool) → bytes_eq l k ≡ c → HoldsOthers (option_and_then (λ z. tree_at z r) (cond c (Some (strip t)) (member_named (strip_members ms) k)))
            → (HoldsOthers (tree_at (strip t) r) → StandsAt (dec (l ∷ r)) e d → Standing d ((pre ++ (l ∷ [])) ++ r) e (tree_at (strip t) r))
            → (HoldsOthers (option_and_then (λ z. tree_at z r) (member_named (strip_members ms) k)) → Standing d (pre ++ (k ∷ r)) e (option_and_then (λ z. tree_at z r) (member_named (strip_members ms) k)))
            → Standing d (pre ++ (k ∷ r)) e (option_and_then (λ z. tree_at z r) (cond c (Some (strip t)) (member_named (strip_members ms) k)))
        go true q x here rest = restep d pre k l r e (tree_at (strip t) r) q (here x (subst (λ c. StandsAt (dec (c ∷ r)) e d) (sym (bytes_same l k q)) a))
        go false q x here rest = rest x

-- ---- the order's decoys

pub decoys_stand : (mk : Maker) (o : Order) (p : Tree) (g : List Given) (dg : ℕ → Text) → IsGoodOrder o → IsLaid mk o p g dg → DecoysStand mk o p g
decoys_stand mk o p g dg good laid d q a =
    let same : strip (marked_claims o) ≡ o.payload = mark_strips_holds o.payload o.hide in
    let w = decoy_there p g dg (marked_claims o) q (marked_claims o) (order_decoys o dg) 0 [] (marked_plain (is_among o.hide) 0 o.payload good.ordered good.no_reserved) (order_closes o)
    (subst (λ t. HoldsOthers (tree_at t q)) (sym same) (held_at o good q (At-In (decoys_of o) d q a)))
    (λ s m.
    let i : In s (sites p) = subst (λ (t : Tree). In s (sites t)) (sym laid.payload_laid) m in
    (owned_site payload s, In-left (owned_site payload s) (map (owned_site payload) (sites p)) (value_sites (λ x. true) 0 g) (In-map (owned_site payload) s (sites p) i), refl, refl, refl))
    (λ s m. first_is s.mark (spots (marked_claims o)) s
    (omega (arith, spots_weigh (only s.mark) (marked_claims o), marks_once_holds o.payload o.hide s.mark, up_to_le s.mark (hidden_of o))) m refl)
    (λ i x b. subst (λ n. StandsAt g n x) (let e : i ≡ 0 + i = omega arith in e) (subst (λ (xs : List Given). StandsAt xs i x) (sym laid.given_laid) b))
    (earlier d q (decoys_of o)) (dg (hidden_of o + d)) (earlier_at dg (hidden_of o) (decoys_of o) d q a) in
    (w.0, w.1, w.2 ∙ laid.decoys d (At-below (decoys_of o) d q a), subst (λ t. IsDecoySite (marked_claims o) w.0 q (earlier d q (decoys_of o)) (tree_at t q)) same w.3)

pub laid_is_issued_holds : LaidIsIssued
laid_is_issued_holds mk o p g dg good ranged short laid differ = issued mk o p g dg good ranged short laid differ (decoys_stand mk o p g dg good laid)

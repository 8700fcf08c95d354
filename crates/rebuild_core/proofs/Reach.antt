-- A closed choice reaches each of its disclosures.
use Rattle.std.proofs.Common.{◌≡◌, ℕ, zero, suc, ◌≤◌, List, [], ◌∷◌, map, length, Bool, true, ◌&&◌, inl, inr, ⊎_elim, Some, refl, sym, ap, ◌∙◌, subst, arith}
use Rattle.std.specs.Prelude.{bytes_eq}
use Rattle.std.proofs.Math.Nat.{le-suc_iff}
use Rattle.std.proofs.lemmas.Bool.{or_left, or_right, and_from}
use Rattle.claim_tree.specs.Tree.{Text, Tree}
use Rattle.sd_outside.specs.Lists.{StandsAt, In, AtNone}
use Rattle.digest_sites.specs.Sites.{Site, sites}
use Rattle.digest_sites.specs.Given.{Given}
use Rattle.marked_tree.specs.Marked.{Marked}
use Rattle.marked_tree.specs.Ways.{ways, way_of}
use Rattle.marked_tree.specs.Closed.{IsClosed}
use Rattle.marked_tree.proofs.Spots.{ways_closed}
use Rattle.rebuild_core.specs.Reached.{stands, is_in_round, is_reached, Owner, payload, value_of, OwnedSite, owned_site, value_sites, met}
use Rattle.rebuild_core.specs.Opening.{reveal, opened, processed}
use Rattle.rebuild_core.specs.Conditions.{RepeatedDigest, Unreferenced}
use Rattle.rebuild_core.specs.Soundness.{IsReferencedOnce, IsWellNamed}
use Rattle.rebuild_core.specs.Laws.{StandsIn, LeadsUp, IsPick}
use Rattle.sd_outside.proofs.Lists.{bytes_refl, In-left, In-right, In-map, In-At, At-In, At-same, list_any-from}
use Rattle.rebuild_core.proofs.Chains.{short, leads_up, item_of_value}
use Rattle.rebuild_core.proofs.Fixed.{fixed, processed_settles}
use Rattle.rebuild_core.proofs.Named.{payload_fits, value_fits}
use Rattle.marked_tree.proofs.Spots.{Way}
use Rattle.rebuild_core.proofs.Marks.{shown_ways, open_way}
use Rattle.rebuild_core.proofs.Pick.{pick_at, pick_from, met_item}

pub stands-from : (d : Text) (ss : List Site) (s : Site) → In s ss → s.digest ≡ d → stands d ss ≡ true
stands-from d ss s m e = list_any-from (λ z. bytes_eq z.digest d) ss s m (bytes_refl s.digest d e)

-- later rounds have what earlier ones have
pub later_round : (p : Tree) (g : List Given) (d : Text) (n r : ℕ) → r ≤ n → is_in_round p g r d ≡ true → is_in_round p g n d ≡ true
later_round p g d zero r l h = let e : r ≡ 0 = omega arith in subst (λ z. is_in_round p g z d ≡ true) e h
later_round p g d (suc n) r l h =
    ⊎_elim (λ a. or_left (is_in_round p g n d) _ (later_round p g d n r a h)) (λ e. subst (λ z. is_in_round p g z d ≡ true) e h) ((le-suc_iff {m = r} {n = n}).0 l)

later_way : (i j : ℕ) (above : List ℕ) (ws : List Way) → In (i, above) ws → In (i, j ∷ above) (way_of (Some j) ws)
later_way i j above ws m = inr (In-map (λ (w : Way). (w.0, j ∷ w.1)) (i, above) ws m)

module _ (p : Tree) (g : List Given) (ok : IsReferencedOnce p g) (named : IsWellNamed p g) where
  -- a way below disclosure i goes on up to the payload
  pub record GoesUp (i : ℕ) (above : List ℕ) : Type 0 where
    pub way : List ℕ
    pub there : In (i, way) (ways (opened (length g) g p))
    pub has : (j : ℕ) → In j above → In j way

  value : ℕ → Given → Marked
  value i x = opened (length g) g x.value

  goes_up : (u : Owner) (is : List ℕ) → LeadsUp p g u is → (i : ℕ) (x : Given) → u ≡ value_of i → StandsAt g i x
      → (v : Way) → In v (way_of (Some i) (ways (opened (length g) g x.value))) → GoesUp v.0 v.1
  goes_up u [] l i x e a v m = let q : value_of i ≡ payload = sym e ∙ l in cc
  goes_up u (k ∷ is) (f, payload, (y, b, s, n, d), l) i x e a v m =
      let q : k ≡ i = let z : value_of k ≡ value_of i = sym f ∙ e in cc in
      let same : y ≡ x = At-same g i y x (subst (λ z. StandsAt g z y) q b) a in
      ⊎_elim
      (λ w.
      let t : w.0.digest ≡ x.digest = ap (λ (c : OwnedSite). c.site.digest) (sym w.2) ∙ d ∙ ap (λ (c : Given). c.digest) same in
      record {
        way = v.1;
        there = open_way (reveal (length g) g) p v
            (payload_fits p g ok named (length g))
            (w.0, w.1, subst (λ c. In v (shown_ways c)) (sym (ap (reveal (length g) g) t ∙ fixed p g ok i x a)) m);
        has = λ j c. c;
      })
      (λ w. let bad : payload ≡ value_of w.n = ap (λ (z : OwnedSite). z.owner) w.is in cc)
      (met_item p g (owned_site payload s) n)
  goes_up u (k ∷ is) (f, value_of j, (y, b, s, n, d), l) i x e a v m =
      let q : k ≡ i = let z : value_of k ≡ value_of i = sym f ∙ e in cc in
      let same : y ≡ x = At-same g i y x (subst (λ z. StandsAt g z y) q b) a in
      ⊎_elim
      (λ w. let bad : value_of j ≡ payload = ap (λ (z : OwnedSite). z.owner) w.2 in cc)
      (λ w.
      let num : w.k ≡ j = let z : value_of j ≡ value_of w.n = ap (λ (c : OwnedSite). c.owner) w.is in let c : j ≡ w.n = cc in omega (arith, w.is_n) in
      let there : StandsAt g j w.x = subst (λ z. StandsAt g z w.x) num w.there in
      let t : w.s.digest ≡ x.digest = ap (λ (c : OwnedSite). c.site.digest) (sym w.is) ∙ d ∙ ap (λ (c : Given). c.digest) same in
      let below = open_way (reveal (length g) g) w.x.value v (value_fits p g ok named (length g) j w.x there)
      (w.s, w.inside, subst (λ c. In v (shown_ways c)) (sym (ap (reveal (length g) g) t ∙ fixed p g ok i x a)) m) in
      let up = goes_up (value_of j) is l j w.x refl there (v.0, j ∷ v.1) (later_way v.0 j v.1 (ways (opened (length g) g w.x.value)) below) in
      record { way = up.way; there = up.there; has = λ c o. up.has c (inr o) })
      (met_item p g (owned_site (value_of j) s) n)

  -- a closed choice has the owner of what it has
  pub owner_chosen : (s : ℕ → Bool) → IsClosed (processed p g) s → (i j : ℕ) → StandsIn p g i (value_of j) → s i ≡ true → s j ≡ true
  owner_chosen s closed i j (x, a, e, n, d) si =
      ⊎_elim
      (λ w. let bad : value_of j ≡ payload = ap (λ (z : OwnedSite). z.owner) w.2 in cc)
      (λ w.
      let num : w.k ≡ j = let z : value_of j ≡ value_of w.n = ap (λ (c : OwnedSite). c.owner) w.is in let c : j ≡ w.n = cc in omega (arith, w.is_n) in
      let there : StandsAt g j w.x = subst (λ z. StandsAt g z w.x) num w.there in
      let t : w.s.digest ≡ x.digest = ap (λ (c : OwnedSite). c.site.digest) (sym w.is) ∙ d in
      let v : Way = (i, []) in
      let below = open_way (reveal (length g) g) w.x.value v (value_fits p g ok named (length g) j w.x there)
      (w.s, w.inside, subst (λ c. In v (shown_ways c)) (sym (ap (reveal (length g) g) t ∙ fixed p g ok i x a)) (inl refl)) in
      let chain = leads_up p g ok j w.x there in
      let up = goes_up (value_of j) chain.0 chain.1 j w.x refl there (i, j ∷ []) (later_way i j [] (ways (opened (length g) g w.x.value)) below) in
      let m : In (i, up.way) (ways (processed p g)) = subst (λ z. In (i, up.way) (ways z)) (sym (processed_settles p g ok)) up.there in
      ways_closed (processed p g) s closed (i, up.way) m si j (up.has j (inl refl)))
      (met_item p g (owned_site (value_of j) e) n)

  module _ (s : ℕ → Bool) (closed : IsClosed (processed p g) s) (h : List ℕ) (whole : (i : ℕ) → s i ≡ true → In i h)
      (within : (i : ℕ) → In i h → s i ≡ true) (gs : List Given) (pick : IsPick g h gs) (once : AtNone (RepeatedDigest p gs)) where
    pub record Climbs (i : ℕ) : Type 0 where
      pub k : ℕ
      pub ks : List ℕ
      pub at : StandsAt h k i
      pub leads : LeadsUp p gs (value_of k) (k ∷ ks)
      pub x : Given
      pub there : StandsAt gs k x
      pub same : StandsAt g i x
      pub round : is_in_round p gs (length ks) x.digest ≡ true

    abbrev Climbed : List ℕ → Type 0
    Climbed [] = Unit {0}
    Climbed (i ∷ is) = s i ≡ true → Climbs i

    in_reached_value : (k : ℕ) (x : Given) (e : Site) → StandsAt gs k x → is_reached p gs x ≡ true → In e (sites x.value) → In (owned_site (value_of k) e) (met p gs)
    in_reached_value k x e a t m =
        In-right (owned_site (value_of k) e) (map (owned_site payload) (sites p)) (value_sites (is_reached p gs) 0 gs)
        (item_of_value (is_reached p gs) gs 0 k k x e (omega arith) a t m)

    climb : (u : Owner) (is : List ℕ) → LeadsUp p g u is → Climbed is
    climb u [] l = tt
    climb u (i ∷ []) (f, o, (x, a, e, n, d), l) = λ si.
        let w = In-At h i (whole i si) in
        let y = pick_from g h gs pick w.0 i w.1 in
        let same : y.0 ≡ x = At-same g i y.0 x y.2 a in
        let there : StandsAt gs w.0 x = subst (λ z. StandsAt gs w.0 z) same y.1 in
        let n' : In (owned_site payload e) (met p g) = subst (λ z. In (owned_site z e) (met p g)) l n in
        let inside : In e (sites p) =
        ⊎_elim (λ v. subst (λ (z : OwnedSite). In z.site (sites p)) (sym v.2) v.1) (λ v. let bad : payload ≡ value_of v.n = ap (λ (z : OwnedSite). z.owner) v.is in cc) (met_item p g (owned_site payload e) n') in
        record {
          k = w.0;
          ks = [];
          at = w.1;
          x = x;
          there = there;
          same = a;
          leads = (refl, payload, (x, there, e, In-left (owned_site payload e) (map (owned_site payload) (sites p)) (value_sites (is_reached p gs) 0 gs) (In-map (owned_site payload) e (sites p) inside), d), refl);
          round = stands-from x.digest (sites p) e inside d;
        }
    climb u (i ∷ j ∷ js) (f, o, (x, a, e, n, d), l) = λ si.
        let w = In-At h i (whole i si) in
        let y = pick_from g h gs pick w.0 i w.1 in
        let same : y.0 ≡ x = At-same g i y.0 x y.2 a in
        let there : StandsAt gs w.0 x = subst (λ z. StandsAt gs w.0 z) same y.1 in
        let n' : In (owned_site (value_of j) e) (met p g) = subst (λ z. In (owned_site z e) (met p g)) l.0 n in
        let sj = owner_chosen s closed i j (x, a, e, n', d) si in
        let up : Climbs j = climb o (j ∷ js) l sj in
        let inside : In e (sites up.x.value) =
        ⊎_elim (λ v. let bad : value_of j ≡ payload = ap (λ (z : OwnedSite). z.owner) v.2 in cc)
        (λ v.
        let num : v.k ≡ j = let z : value_of j ≡ value_of v.n = ap (λ (c : OwnedSite). c.owner) v.is in let c : j ≡ v.n = cc in omega (arith, v.is_n) in
        let z : v.x ≡ up.x = At-same g j v.x up.x (subst (λ c. StandsAt g c v.x) num v.there) up.same in
        subst (λ (c : Given). In e (sites c.value)) z (subst (λ (c : Site). In c (sites v.x.value)) (sym (ap (λ (c : OwnedSite). c.site) v.is)) v.inside))
        (met_item p g (owned_site (value_of j) e) n') in
        let bound = short p gs once (value_of up.k) (up.k ∷ up.ks) up.leads in
        let reached : is_reached p gs up.x ≡ true = later_round p gs up.x.digest (length gs) (length up.ks) (omega arith) up.round in
        record {
          k = w.0;
          ks = up.k ∷ up.ks;
          at = w.1;
          x = x;
          there = there;
          same = a;
          leads = (refl, value_of up.k, (x, there, e, in_reached_value up.k up.x e up.there reached inside, d), up.leads);
          round = or_right (is_in_round p gs (length up.ks) x.digest) _
              (list_any-from (λ z. is_in_round p gs (length up.ks) z.digest && stands x.digest (sites z.value)) gs up.x (At-In gs up.k up.x up.there)
              (and_from (is_in_round p gs (length up.ks) up.x.digest) (stands x.digest (sites up.x.value)) up.round (stands-from x.digest (sites up.x.value) e inside d)));
        }

    pub c17_holds : AtNone (Unreferenced p gs)
    c17_holds q (x, a, t) =
        let w = pick_at g h gs pick q x a in
        let chain = leads_up p g ok w.0 x w.2 in
        go w.0 (within w.0 (At-In h q w.0 w.1)) w.2 chain.0 chain.1
      where
        go : (i : ℕ) → s i ≡ true → StandsAt g i x → (is : List ℕ) → LeadsUp p g (value_of i) is → ⊥
        go i si b [] l = let bad : value_of i ≡ payload = l in cc
        go i si b (j ∷ is) l =
            let num : i ≡ j = let z : value_of i ≡ value_of j = l.0 in cc in
            let up : Climbs j = climb (value_of i) (j ∷ is) l (subst (λ z. s z ≡ true) num si) in
            let same : up.x ≡ x = At-same g j up.x x up.same (subst (λ z. StandsAt g z x) num b) in
            let bound = short p gs once (value_of up.k) (up.k ∷ up.ks) up.leads in
            let r : is_in_round p gs (length gs) up.x.digest ≡ true = later_round p gs up.x.digest (length gs) (length up.ks) (omega arith) up.round in
            let c : is_in_round p gs (length gs) x.digest ≡ true = subst (λ (z : Given). is_in_round p gs (length gs) z.digest ≡ true) same r in
            cc

-- A choice of the given disclosures, in any order.
use Rattle.std.proofs.Common.{◌≡◌, ℕ, zero, suc, ◌+◌, ◌<◌, List, [], ◌∷◌, map, Bool, true, false, cond, eqb, ◌⊎◌, inl, inr, ⊎_elim, Option, Some, None, refl, sym, ap, ◌∙◌, subst, arith, eqb-true, eq-eqb}
use Rattle.std.specs.List.{IsDistinct, AllByRecursion}
use Rattle.claim_tree.specs.Tree.{Text, Tree, IsOrdered}
use Rattle.sd_outside.specs.Lists.{StandsAt, In, AtNone}
use Rattle.digest_sites.specs.Sites.{Site, sites}
use Rattle.digest_sites.specs.Given.{Given}
use Rattle.rebuild_core.specs.Reached.{find, is_reached, Owner, payload, value_of, OwnedSite, owned_site, value_sites, met, owned_digests, given_digests}
use Rattle.rebuild_core.specs.Opening.{shown, shown_by, reveal, open_tree}
use Rattle.rebuild_core.specs.Conditions.{RepeatedDigest, RepeatedDisclosure, Misused, Discloses, IsWrong}
use Rattle.rebuild_core.specs.Soundness.{IsReferencedOnce, IsWellNamed}
use Rattle.rebuild_core.specs.Laws.{IsPick, position_from}
use Rattle.sd_outside.proofs.Lists.{In-append, In-of_map, In-At, At-In, At-same, At-map, one_place, At-of_map}
use Rattle.rebuild_core.proofs.Found.{found}
use Rattle.rebuild_core.proofs.Chains.{in_payload, in_value, same_item, reached_all, value_injective}
use Rattle.rebuild_core.proofs.Fixed.{find_at}
use Rattle.rebuild_core.proofs.Fits.{Pairwise, Pairwise-left, Pairwise-right, Pairwise-join, Pairwise-map, Pairwise-of_map, reshown, remark_open}
use Rattle.rebuild_core.proofs.Named.{Pairwise-from, Pairwise-at, value_part, value_fits}

pub pick_at : (g : List Given) (h : List ℕ) (gs : List Given) → IsPick g h gs → (k : ℕ) (x : Given) → StandsAt gs k x → (i : ℕ) × StandsAt h k i × StandsAt g i x
pick_at g (i ∷ h) (y ∷ gs) p zero x a = (i, refl, subst (λ z. StandsAt g i z) (sym a) p.0)
pick_at g (i ∷ h) (y ∷ gs) p (suc k) x a = pick_at g h gs p.1 k x a
pick_at g [] [] p k x a = elim a [ ]
pick_at g [] (y ∷ gs) p k x a = absurd p
pick_at g (i ∷ h) [] p k x a = absurd p

pub pick_from : (g : List Given) (h : List ℕ) (gs : List Given) → IsPick g h gs → (k i : ℕ) → StandsAt h k i → (x : Given) × StandsAt gs k x × StandsAt g i x
pick_from g (j ∷ h) (y ∷ gs) p zero i a = (y, refl, subst (λ z. StandsAt g z y) (sym a) p.0)
pick_from g (j ∷ h) (y ∷ gs) p (suc k) i a = pick_from g h gs p.1 k i a
pick_from g [] [] p k i a = elim a [ ]
pick_from g [] (y ∷ gs) p k i a = elim a [ ]
pick_from g (j ∷ h) [] p k i a = absurd p

each_differs : (i : ℕ) (h : List ℕ) → AllByRecursion (λ j. eqb i j ≡ false) h → (j : ℕ) → In j h → i ≡ j → ⊥
each_differs i (n ∷ h) a j (inl e) q = let t : eqb i n ≡ true = eq-eqb i n (q ∙ e) in let f : eqb i n ≡ false = a.0 in cc
each_differs i (n ∷ h) a j (inr m) q = each_differs i h a.1 j m q
each_differs i [] a j m q = elim m [ ]

pub distinct_pairs : (h : List ℕ) → IsDistinct eqb h → Pairwise (λ i j. i ≡ j → ⊥) h
unfolding IsDistinct
distinct_pairs [] d = tt
distinct_pairs (i ∷ h) d = (each_differs i h d.0, distinct_pairs h d.1)

pub place_at : (m : ℕ) (h : List ℕ) (k n i : ℕ) → Pairwise (λ a b. a ≡ b → ⊥) h → StandsAt h k i → n ≡ m + k → position_from m h i ≡ Some n
place_at m (j ∷ h) zero n i d a e =
    let t : eqb j i ≡ true = eq-eqb j i (sym a) in
    let q : n ≡ m = omega arith in
    rw (t, q)
place_at m (j ∷ h) (suc k) n i d a e = go (eqb j i) refl (place_at (suc m) h k n i d.1 a (omega arith))
  where
    go : (b : Bool) → eqb j i ≡ b → position_from (suc m) h i ≡ Some n → cond b (Some m) (position_from (suc m) h i) ≡ Some n
    go true t ih = absurd (d.0 i (At-In h k i a) (eqb-true j i t))
    go false t ih = ih
place_at m [] k n i d a e = elim a [ ]

pub place_none : (m : ℕ) (h : List ℕ) (i : ℕ) → (In i h → ⊥) → position_from m h i ≡ None
place_none m [] i out = refl
place_none m (j ∷ h) i out = go (eqb j i) refl (place_none (suc m) h i (λ k. out (inr k)))
  where
    go : (b : Bool) → eqb j i ≡ b → position_from (suc m) h i ≡ None → cond b (Some m) (position_from (suc m) h i) ≡ None
    go true t ih = absurd (out (inl (sym (eqb-true j i t))))
    go false t ih = ih

pub place_found : (m : ℕ) (h : List ℕ) (i n : ℕ) → position_from m h i ≡ Some n → (k : ℕ) × StandsAt h k i × (n ≡ m + k)
place_found m [] i n e = cc
place_found m (j ∷ h) i n e = go (eqb j i) refl e (place_found (suc m) h i n)
  where
    go : (b : Bool) → eqb j i ≡ b → cond b (Some m) (position_from (suc m) h i) ≡ Some n
        → (position_from (suc m) h i ≡ Some n → (k : ℕ) × StandsAt h k i × (n ≡ suc m + k)) → (k : ℕ) × StandsAt (j ∷ h) k i × (n ≡ m + k)
    go true t q ih = let z : m ≡ n = cc in (0, sym (eqb-true j i t), omega arith)
    go false t q ih = let w = ih q in (suc w.0, w.1, omega (arith, w.2))

-- ---- items

-- an item of the values, by its disclosure and site
pub record IsValueItem (i : ℕ) (g : List Given) (m : OwnedSite) : Type 0 where
  pub k : ℕ
  pub n : ℕ
  pub is_n : n ≡ i + k
  pub x : Given
  pub there : StandsAt g k x
  pub s : Site
  pub inside : In s (sites x.value)
  pub is : m ≡ owned_site (value_of n) s

pub value_item : (t : Given → Bool) (i : ℕ) (g : List Given) (m : OwnedSite) → In m (value_sites t i g) → IsValueItem i g m
value_item t i [] m h = elim h [ ]
value_item t i (y ∷ g) m h =
    ⊎_elim (first (t y)) (λ a. let w = value_item t (suc i) g m a in
    record { k = suc w.k; n = w.n; is_n = omega (arith, w.is_n); x = w.x; there = w.there; s = w.s; inside = w.inside; is = w.is })
    (In-append m (cond (t y) (map (owned_site (value_of i)) (sites y.value)) []) (value_sites t (suc i) g) h)
  where
    first : (b : Bool) → In m (cond b (map (owned_site (value_of i)) (sites y.value)) []) → IsValueItem i (y ∷ g) m
    first true a =
        let w = In-of_map (owned_site (value_of i)) m (sites y.value) a in
        record { k = 0; n = i; is_n = omega arith; x = y; there = refl; s = w.0; inside = w.1; is = w.2 }
    first false a = elim a [ ]

pub met_item : (p : Tree) (g : List Given) (m : OwnedSite) → In m (met p g) → ((s : Site) × In s (sites p) × (m ≡ owned_site payload s)) ⊎ IsValueItem 0 g m
met_item p g m h =
    ⊎_elim (λ a. inl (In-of_map (owned_site payload) m (sites p) a)) (λ a. inr (value_item (is_reached p g) 0 g m a))
    (In-append m (map (owned_site payload) (sites p)) (value_sites (is_reached p g) 0 g) h)

value_pairs : (R : OwnedSite → OwnedSite → Type 0) (t : Given → Bool) (i : ℕ) (g : List Given)
    → ((k n : ℕ) (x : Given) → n ≡ i + k → StandsAt g k x → Pairwise R (map (owned_site (value_of n)) (sites x.value)))
    → ((k l n m : ℕ) (x y : Given) (s e : Site) → k < l → n ≡ i + k → m ≡ i + l → StandsAt g k x → StandsAt g l y → In s (sites x.value) → In e (sites y.value) → R (owned_site (value_of n) s) (owned_site (value_of m) e))
    → Pairwise R (value_sites t i g)
value_pairs R t i [] parts cross = tt
value_pairs R t i (y ∷ g) parts cross =
    Pairwise-join R (cond (t y) (map (owned_site (value_of i)) (sites y.value)) []) (value_sites t (suc i) g)
    (first (t y))
    (value_pairs R t (suc i) g (λ k n x e a. parts (suc k) n x (omega arith) a)
    (λ k l n m x z s u b e f. cross (suc k) (suc l) n m x z s u (omega arith) (omega arith) (omega arith)))
    (apart (t y))
  where
    first : (b : Bool) → Pairwise R (cond b (map (owned_site (value_of i)) (sites y.value)) [])
    first true = parts 0 i y (omega arith) refl
    first false = tt

    apart : (b : Bool) (a c : OwnedSite) → In a (cond b (map (owned_site (value_of i)) (sites y.value)) []) → In c (value_sites t (suc i) g) → R a c
    apart true a c m n =
        let w = In-of_map (owned_site (value_of i)) a (sites y.value) m in
        let v = value_item t (suc i) g c n in
        subst (λ z. R z c) (sym w.2) (subst (λ z. R (owned_site (value_of i) w.0) z) (sym v.is)
        (cross 0 (suc v.k) i v.n y v.x w.0 v.s (omega arith) (omega arith) (omega (arith, v.is_n)) refl v.there w.1 v.inside))
    apart false a c m n = elim m [ ]

met_pairs : (R : OwnedSite → OwnedSite → Type 0) (p : Tree) (g : List Given)
    → Pairwise R (map (owned_site payload) (sites p))
    → ((k : ℕ) (x : Given) → StandsAt g k x → Pairwise R (map (owned_site (value_of k)) (sites x.value)))
    → ((k : ℕ) (x : Given) (s e : Site) → StandsAt g k x → In s (sites p) → In e (sites x.value) → R (owned_site payload s) (owned_site (value_of k) e))
    → ((k l : ℕ) (x y : Given) (s e : Site) → k < l → StandsAt g k x → StandsAt g l y → In s (sites x.value) → In e (sites y.value) → R (owned_site (value_of k) s) (owned_site (value_of l) e))
    → Pairwise R (met p g)
met_pairs R p g own parts first cross =
    Pairwise-join R (map (owned_site payload) (sites p)) (value_sites (is_reached p g) 0 g) own
    (value_pairs R (is_reached p g) 0 g
    (λ k n x e a. let q : n ≡ k = omega arith in subst (λ z. Pairwise R (map (owned_site (value_of z)) (sites x.value))) (sym q) (parts k x a))
    (λ k l n m x y s u b e f a c i j.
    let q : n ≡ k = omega arith in
    let z : m ≡ l = omega arith in
    subst (λ v. R (owned_site (value_of v) s) (owned_site (value_of m) u)) (sym q) (subst (λ v. R (owned_site (value_of k) s) (owned_site (value_of v) u)) (sym z) (cross k l x y s u b a c i j))))
    (λ a c m n.
    let w = In-of_map (owned_site payload) a (sites p) m in
    let v = value_item (is_reached p g) 0 g c n in
    let q : v.n ≡ v.k = omega (arith, v.is_n) in
    subst (λ z. R z c) (sym w.2) (subst (λ z. R (owned_site payload w.0) z) (sym v.is)
    (subst (λ z. R (owned_site payload w.0) (owned_site (value_of z) v.s)) (sym q) (first v.k v.x w.0 v.s v.there w.1 v.inside))))

abbrev DigestsDiffer : OwnedSite → OwnedSite → Type 0
DigestsDiffer a b = a.site.digest ≡ b.site.digest → ⊥

abbrev DiscloseApart : List Given → OwnedSite → OwnedSite → Type 0
DiscloseApart g a b = a.owner ≡ b.owner → a.site.at ≡ b.site.at → (k : Text) → Discloses g a k → Discloses g b k → ⊥

pub payload_not_value : (i : ℕ) → payload ≡ value_of i → ⊥
payload_not_value i e = cc

module _ (p : Tree) (g : List Given) (ok : IsReferencedOnce p g) (named : IsWellNamed p g) (h : List ℕ) (differ : Pairwise (λ i j. i ≡ j → ⊥) h) (gs : List Given) (pick : IsPick g h gs) where
  -- two items of the choice are one item of all only at one place
  pub one_number : (k l : ℕ) (x y : Given) → StandsAt gs k x → StandsAt gs l y → x.digest ≡ y.digest → (k < l → ⊥)
  one_number k l x y a b e less =
      let v = pick_at g h gs pick k x a in
      let w = pick_at g h gs pick l y b in
      let same = one_place (given_digests g) ok.no_repeated_disclosure v.0 w.0 y.digest (subst (λ d. StandsAt (given_digests g) v.0 d) e (At-map (λ z. z.digest) g v.0 x v.2)) (At-map (λ z. z.digest) g w.0 y w.2) in
      Pairwise-at (λ i j. i ≡ j → ⊥) h differ k l v.0 w.0 less v.1 w.1 same

  pub c14_holds : AtNone (RepeatedDisclosure gs)
  c14_holds q (d, a, j, l, b) =
      let x = At-of_map (λ (z : Given). z.digest) gs q d a in
      let y = At-of_map (λ (z : Given). z.digest) gs j d b in
      one_number j q y.0 x.0 y.1 x.1 (sym y.2 ∙ x.2) l

  pub c15_holds : AtNone (Misused p gs)
  c15_holds zero e = ok.no_misuse 0 e
  c15_holds (suc k) (x, a, e) = let w = pick_at g h gs pick k x a in ok.no_misuse (suc w.0) (x, w.2, e)

  -- a relation between the sites of one owner goes from all items to those of the choice
  part : (R : OwnedSite → OwnedSite → Type 0) → Pairwise R (met p g) → ((o u : Owner) (s e : Site) → R (owned_site o s) (owned_site o e) → R (owned_site u s) (owned_site u e))
      → (k : ℕ) (x : Given) → StandsAt gs k x → Pairwise R (map (owned_site (value_of k)) (sites x.value))
  part R all move k x a =
      let w = pick_at g h gs pick k x a in
      let old = value_part R (is_reached p g) g 0 w.0 w.0 x (omega arith) w.2 (reached_all p g ok w.0 x w.2) (Pairwise-right R (map (owned_site payload) (sites p)) (value_sites (is_reached p g) 0 g) all) in
      Pairwise-map (λ s e. R (owned_site (value_of w.0) s) (owned_site (value_of w.0) e)) R (owned_site (value_of k)) (λ s e. move (value_of w.0) (value_of k) s e) (sites x.value)
      (Pairwise-of_map (λ s e. R (owned_site (value_of w.0) s) (owned_site (value_of w.0) e)) R (owned_site (value_of w.0)) (λ s e r. r) (sites x.value) old)

  digests_differ : Pairwise DigestsDiffer (met p g)
  digests_differ = Pairwise-from DigestsDiffer (met p g)
      (λ j q a b l m n e. ok.no_repeated_digest q (b.site.digest, At-map (λ z. z.site.digest) (met p g) q b n, j, l, subst (λ d. StandsAt (owned_digests (met p g)) j d) e (At-map (λ z. z.site.digest) (met p g) j a m)))

  picked_differ : Pairwise DigestsDiffer (met p gs)
  picked_differ =
      met_pairs DigestsDiffer p gs
      (Pairwise-left DigestsDiffer (map (owned_site payload) (sites p)) (value_sites (is_reached p g) 0 g) digests_differ)
      (part DigestsDiffer digests_differ (λ o u s e r. r))
      (λ k x s e a m n q.
      let w = pick_at g h gs pick k x a in
      payload_not_value w.0 (ap (λ (z : OwnedSite). z.owner) (same_item p g ok.no_repeated_digest (owned_site payload s) (owned_site (value_of w.0) e) (in_payload p g ok s m) (in_value p g ok w.0 x e w.2 n) q)))
      (λ k l x y s e less a b m n q.
      let v = pick_at g h gs pick k x a in
      let w = pick_at g h gs pick l y b in
      let same = value_injective v.0 w.0 (ap (λ (z : OwnedSite). z.owner) (same_item p g ok.no_repeated_digest (owned_site (value_of v.0) s) (owned_site (value_of w.0) e) (in_value p g ok v.0 x s v.2 m) (in_value p g ok w.0 y e w.2 n) q)) in
      Pairwise-at (λ i j. i ≡ j → ⊥) h differ k l v.0 w.0 less v.1 w.1 same)

  pub c16_holds : AtNone (RepeatedDigest p gs)
  c16_holds q (d, a, j, l, b) =
      let x = At-of_map (λ (z : OwnedSite). z.site.digest) (met p gs) q d a in
      let y = At-of_map (λ (z : OwnedSite). z.site.digest) (met p gs) j d b in
      Pairwise-at DigestsDiffer (met p gs) picked_differ j q y.0 x.0 l y.1 x.1 (sym y.2 ∙ x.2)

  names_apart : Pairwise (DiscloseApart g) (met p g)
  names_apart = Pairwise-from (DiscloseApart g) (met p g)
      (λ j q a b l m n o s k da db. named.no_name_clash q (b, n, k, db, inr (j, l, a, m, o, s, da)))

  picked_apart : Pairwise (DiscloseApart g) (met p gs)
  picked_apart =
      met_pairs (DiscloseApart g) p gs
      (Pairwise-left (DiscloseApart g) (map (owned_site payload) (sites p)) (value_sites (is_reached p g) 0 g) names_apart)
      (part (DiscloseApart g) names_apart (λ o u s e r same. r refl))
      (λ k x s e a m n o. absurd (payload_not_value k o))
      (λ k l x y s e less a b m n o. let q = value_injective k l o in absurd (omega arith))

  -- the item of all that an item of the choice comes from
  pub record ComesFrom (m : OwnedSite) : Type 0 where
    pub from : OwnedSite
    pub there : In from (met p g)
    pub same : from.site ≡ m.site
    pub top : m.owner ≡ payload → from.owner ≡ payload

  pub comes_from : (m : OwnedSite) → In m (met p gs) → ComesFrom m
  comes_from m n =
      ⊎_elim
      (λ w. record { from = owned_site payload w.0; there = in_payload p g ok w.0 w.1; same = ap (λ (z : OwnedSite). z.site) (sym w.2); top = λ o. refl })
      (λ v.
      let w = pick_at g h gs pick v.k v.x v.there in
      record {
        from = owned_site (value_of w.0) v.s;
        there = in_value p g ok w.0 v.x v.s w.2 v.inside;
        same = ap (λ (z : OwnedSite). z.site) (sym v.is);
        top = λ o. absurd (payload_not_value v.n (sym o ∙ ap (λ (z : OwnedSite). z.owner) v.is));
      })
      (met_item p gs m n)

  discloses_too : (m : OwnedSite) (k : Text) → Discloses gs m k → Discloses g m k
  discloses_too m k (e, x, n, d, same) =
      let a = In-At gs x n in
      let w = pick_at g h gs pick a.0 x a.1 in
      (e, x, At-In g w.0 x w.2, d, same)

  pub named_holds : IsWellNamed p gs
  named_holds = record {
    no_wrong_shape = λ k (x, a, m, n, d, wrong).
        let w = pick_at g h gs pick k x a in
        let f = comes_from m n in
        named.no_wrong_shape w.0 (x, w.2, f.from, f.there, ap (λ (z : Site). z.digest) f.same ∙ d, subst (λ (z : Site). IsWrong z.kind x.name) (sym f.same) wrong);
    no_reserved_name = λ k (x, a, m, n, d, (e, name, is, res)).
        let w = pick_at g h gs pick k x a in
        let f = comes_from m n in
        named.no_reserved_name w.0 (
          x,
          w.2,
          f.from,
          f.there,
          ap (λ (z : Site). z.digest) f.same ∙ d,
          (
            ap (λ (z : Site). z.kind) f.same ∙ e,
            name,
            is,
            ⊎_elim (λ q. inl q) (λ q. inr (⊎_elim (λ r. inl r) (λ r. inr (r.0, f.top r.1, ap (λ (z : Site). z.at) f.same ∙ r.2)) q)) res,
          ),
        );
    no_name_clash = λ q (m, a, k, d, where_it_is).
        ⊎_elim
        (λ i.
        let f = comes_from m (At-In (met p gs) q m a) in
        let w = In-At (met p g) f.from f.there in
        named.no_name_clash w.0 (f.from, w.1, k, subst (λ (z : Site). Discloses g (owned_site f.from.owner z) k) (sym f.same) (discloses_too m k d), inl (subst (λ (z : Site). In k z.beside) (sym f.same) i)))
        (λ (j, l, e, b, o, s, de). Pairwise-at (DiscloseApart g) (met p gs) picked_apart j q e m l b a o s k (discloses_too e k de) (discloses_too m k d))
        where_it_is;
  }

  -- what a digest shows in the choice is what it shows in all, with the marks left out or replaced
  pub reveal_picked : ((i : ℕ) (x : Given) → StandsAt g i x → IsOrdered x.value) → (f : ℕ) (d : Text) → reveal f gs d ≡ reshown (position_from 0 h) (reveal f g d)
  reveal_picked ord zero d = refl
  reveal_picked ord (suc f) d = go (find g d) refl (reveal_picked ord f)
    where
      not_found : ((k : ℕ) (x : Given) → StandsAt gs k x → x.digest ≡ d → ⊥) → find gs d ≡ None
      not_found never = none (find gs d) refl
        where
          none : (o : Option (ℕ × Given)) → find gs d ≡ o → find gs d ≡ None
          none None e = e
          none (Some (j, x)) e = let w = found 0 gs d j x e in absurd (never w.0 x w.1 w.2)

      go : (o : Option (ℕ × Given)) → find g d ≡ o → ((d : Text) → reveal f gs d ≡ reshown (position_from 0 h) (reveal f g d))
          → shown_by (open_tree (reveal f gs)) (find gs d) ≡ reshown (position_from 0 h) (shown_by (open_tree (reveal f g)) (find g d))
      go None e ih =
          let q : find gs d ≡ None = not_found (λ k x a t.
          let w = pick_at g h gs pick k x a in
          let u : find g d ≡ Some (w.0, x) = subst (λ z. find g z ≡ Some (w.0, x)) t (find_at g w.0 x ok.no_repeated_disclosure w.2) in
          let v : ◌≡◌ {A = Option (ℕ × Given)} None (Some (w.0, x)) = sym e ∙ u in cc) in
          rw (e, q)
      go (Some (j, x)) e ih = placed (position_from 0 h j) refl
        where
          placed : (o : Option ℕ) → position_from 0 h j ≡ o → shown_by (open_tree (reveal f gs)) (find gs d) ≡ reshown (position_from 0 h) (shown_by (open_tree (reveal f g)) (find g d))
          placed None n =
              let w = found 0 g d j x e in
              let a : StandsAt g j x = let q : w.0 ≡ j = omega (arith, w.3) in subst (λ z. StandsAt g z x) q w.1 in
              let q : find gs d ≡ None = not_found (λ k y b t.
              let v = pick_at g h gs pick k y b in
              let same = one_place (given_digests g) ok.no_repeated_disclosure v.0 j d (subst (λ z. StandsAt (given_digests g) v.0 z) t (At-map (λ z. z.digest) g v.0 y v.2)) (subst (λ z. StandsAt (given_digests g) j z) w.2 (At-map (λ z. z.digest) g j x a)) in
              let u : position_from 0 h j ≡ Some k = place_at 0 h k k j differ (subst (λ z. StandsAt h k z) same v.1) (omega arith) in
              let c : ◌≡◌ {A = Option ℕ} None (Some k) = sym n ∙ u in cc) in
              rw (q, e, n)
          placed (Some k) n =
              let w = found 0 g d j x e in
              let a : StandsAt g j x = let q : w.0 ≡ j = omega (arith, w.3) in subst (λ z. StandsAt g z x) q w.1 in
              let v = place_found 0 h j k n in
              let q : v.0 ≡ k = omega (arith, v.2) in
              let y = pick_from g h gs pick k j (subst (λ z. StandsAt h z j) q v.1) in
              let same : y.0 ≡ x = At-same g j y.0 x y.2 a in
              let u : find gs d ≡ Some (k, x) = subst (λ z. find gs z ≡ Some (k, x)) w.2 (find_at gs k x c14_holds (subst (λ z. StandsAt gs k z) same y.1)) in
              rw (u, e, n)
              (ap (shown k x.name) (sym (remark_open (position_from 0 h) (reveal f g) (reveal f gs) x.value (ord j x a) (value_fits p g ok named f j x a) (λ s m. ih s.digest))))

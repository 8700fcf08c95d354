-- Disclosures that are sound with a payload, where none that is not of its own has a digest that stands in it or in theirs, are a
-- closed choice of its own.
use Rattle.std.proofs.Common.{◌≡◌, ℕ, zero, suc, List, [], ◌∷◌, map, length, Bool, true, false, eqb, ◌&&◌, ◌⊎◌, inl, inr, ⊎_elim, Option, Some, None, refl, sym, ap, ◌∙◌, subst, arith, eqb-true}
use Rattle.std.specs.List.{IsDistinct, AllByRecursion}
use Rattle.std.proofs.lemmas.Bool.{or_cases, and_parts}
use Rattle.claim_tree.specs.Tree.{Tree}
use Rattle.sd_outside.specs.Lists.{StandsAt, In}
use Rattle.digest_sites.specs.Sites.{Site, sites}
use Rattle.digest_sites.specs.Given.{Given}
use Rattle.marked_tree.specs.Closed.{IsClosed}
use Rattle.marked_tree.specs.Marked.{Marked, strip, prune, remark}
use Rattle.marked_tree.specs.Numbers.{has}
use Rattle.marked_tree.specs.Ways.{ways}
use Rattle.rebuild_core.specs.Free.{HasNoReserved}
use Rattle.rebuild_core.specs.Laws.{StandsIn, LeadsUp, Enumerates, IsPick, position_from}
use Rattle.rebuild_core.specs.Opening.{reveal, opened, processed}
use Rattle.rebuild_core.specs.Reached.{stands, is_in_round, payload, value_of, OwnedSite, owned_site, value_sites, all_sites, all_digests, given_digests}
use Rattle.rebuild_core.specs.Readable.{IsReadable}
use Rattle.rebuild_core.specs.Soundness.{IsSound}
use Rattle.sd_outside.proofs.Lists.{In-left, In-right, In-map, In-At, At-In, At-same, At-map, At-below, list_any-In}
use Rattle.marked_tree.proofs.NumberSets.{has-In, In-has}
use Rattle.marked_tree.proofs.Remarks.{strip-renumbered}
use Rattle.marked_tree.proofs.Spots.{closed_by_ways}
use Rattle.rebuild_core.proofs.Chains.{item_of_value, in_payload, in_value, same_item, leads_up, reached_all, value_injective}
use Rattle.rebuild_core.proofs.Fits.{Pairwise}
use Rattle.rebuild_core.proofs.Fixed.{processed_settles}
use Rattle.rebuild_core.proofs.Found.{stands-In}
use Rattle.marked_tree.proofs.Spots.{Way}
use Rattle.rebuild_core.proofs.Named.{Pairwise-from}
use Rattle.rebuild_core.proofs.Pick.{pick_at, pick_from, met_item, payload_not_value, place_at}
use Rattle.rebuild_core.proofs.Presented.{presentation_holds}
use Rattle.rebuild_core.proofs.Ranked.{same_marks}
use Rattle.rebuild_core.proofs.ShownBy.{way_step, shown_from}
use Rattle.rebuild_core.proofs.ShownAt.{ShownFree, Shows, shown_back}
use Rattle.rebuild_core.proofs.AllShown.{value_free}

-- these disclosures are some of the others, in any order; the set of their numbers is closed in the marked tree, and they show
-- what it says without what is not in this set
pub record IsHonest (m : Marked) (p : Tree) (g gs : List Given) : Type 0 where
  pub order : List ℕ
  pub once : IsDistinct eqb order
  pub pick : IsPick g order gs
  pub closed : IsClosed m (has order)
  pub shows : strip (processed p gs) ≡ strip (prune m (has order))

-- each of them is one of the others, or its digest stands neither in the payload nor in a value of theirs
abbrev pub NoneForged : Tree → List Given → List Given → Type 0
NoneForged p g gs = (x : Given) → In x gs → In x g ⊎ (In x.digest (all_digests p g) → ⊥)

-- ---- digests that stand in the payload and in the values

pub payload_digest : (p : Tree) (g : List Given) (s : Site) → In s (sites p) → In s.digest (all_digests p g)
payload_digest p g s m =
    In-map (λ (z : OwnedSite). z.site.digest) (owned_site payload s) (all_sites p g)
    (In-left (owned_site payload s) (map (owned_site payload) (sites p)) (value_sites (λ x. true) 0 g) (In-map (owned_site payload) s (sites p) m))

pub value_digest : (p : Tree) (g : List Given) (x : Given) (s : Site) → In x g → In s (sites x.value) → In s.digest (all_digests p g)
value_digest p g x s there m =
    let w = In-At g x there in
    In-map (λ (z : OwnedSite). z.site.digest) (owned_site (value_of w.0) s) (all_sites p g)
    (In-right (owned_site (value_of w.0) s) (map (owned_site payload) (sites p)) (value_sites (λ x. true) 0 g) (item_of_value (λ x. true) g 0 w.0 w.0 x s (omega arith) w.1 refl m))

-- ---- the numbers of the disclosures

positions : (g gs : List Given) → ((x : Given) → In x gs → In x g) → (h : List ℕ) × IsPick g h gs
positions g [] sub = ([], tt)
positions g (x ∷ gs) sub =
    let a = In-At g x (sub x (inl refl)) in
    let w = positions g gs (λ y m. sub y (inr m)) in
    (a.0 ∷ w.0, (a.1, w.1))

all_differ : (i : ℕ) (h : List ℕ) → ((j : ℕ) → In j h → i ≡ j → ⊥) → AllByRecursion (λ j. eqb i j ≡ false) h
all_differ i [] d = tt
all_differ i (j ∷ h) d = (go (eqb i j) refl, all_differ i h (λ k m. d k (inr m)))
  where
    go : (b : Bool) → eqb i j ≡ b → eqb i j ≡ false
    go true e = absurd (d j (inl refl) (eqb-true i j e))
    go false e = e

distinct-from : (h : List ℕ) → Pairwise (λ i j. i ≡ j → ⊥) h → IsDistinct eqb h
unfolding IsDistinct
distinct-from [] d = tt
distinct-from (i ∷ h) d = (all_differ i h d.0, distinct-from h d.1)

-- the number or, where there is none, 0
abbrev some_number : Option ℕ → ℕ
some_number None = 0
some_number (Some n) = n

-- new numbers change nothing of what is stripped
strip_placed : (s : ℕ → Bool) (f : ℕ → Option ℕ) → ((i : ℕ) → s i ≡ true → (n : ℕ) × (f i ≡ Some n)) → (m : Marked) → strip (remark f (prune m s)) ≡ strip (prune m s)
strip_placed s f each m =
    ap strip (same_marks s f (λ i. Some (some_number (f i))) (λ i e. let w = each i e in w.1 ∙ ap (λ (o : Option ℕ). Some (some_number o)) (sym w.1)) m)
    ∙ strip-renumbered (λ i. some_number (f i)) (prune m s)

module _ (p : Tree) (g : List Given) (readable : IsReadable p g) (sound : IsSound p g) (free : HasNoReserved (strip (processed p g)))
    (gs : List Given) (sound_too : IsSound p gs) (known : NoneForged p g gs) where
  -- by the rounds, each is one of the others
  of_round : (r : ℕ) (x : Given) → In x gs → is_in_round p gs r x.digest ≡ true → In x g
  of_round zero x m h =
      let w = stands-In x.digest (sites p) h in
      ⊎_elim (λ a. a) (λ b. absurd (b (subst (λ d. In d (all_digests p g)) w.2 (payload_digest p g w.0 w.1)))) (known x m)
  of_round (suc r) x m h =
      ⊎_elim (λ a. of_round r x m a)
      (λ b.
      let w = list_any-In (λ y. is_in_round p gs r y.digest && stands x.digest (sites y.value)) gs b in
      let parts = and_parts (is_in_round p gs r w.0.digest) (stands x.digest (sites w.0.value)) w.2 in
      let there = of_round r w.0 w.1 parts.0 in
      let s = stands-In x.digest (sites w.0.value) parts.1 in
      ⊎_elim (λ a. a) (λ c. absurd (c (subst (λ d. In d (all_digests p g)) s.2 (value_digest p g w.0 s.0 there s.1)))) (known x m))
      (or_cases (is_in_round p gs r x.digest) _ h)

  issued : (x : Given) → In x gs → In x g
  issued x m = let a = In-At gs x m in of_round (length gs) x m (reached_all p gs sound_too.referenced a.0 x a.1)

  module _ (h : List ℕ) (pick : IsPick g h gs) where
    numbers_differ : Pairwise (λ i j. i ≡ j → ⊥) h
    numbers_differ =
        Pairwise-from (λ i j. i ≡ j → ⊥) h
        (λ k l i j less a b e.
        let x = pick_from g h gs pick k i a in
        let y = pick_from g h gs pick l j b in
        let same : x.0 ≡ y.0 = At-same g i x.0 y.0 x.2 (subst (λ z. StandsAt g z y.0) (sym e) y.2) in
        sound_too.referenced.no_repeated_disclosure l
        (y.0.digest, At-map (λ z. z.digest) gs l y.0 y.1, k, less, subst (λ z. StandsAt (given_digests gs) k z) (ap (λ (z : Given). z.digest) same) (At-map (λ z. z.digest) gs k x.0 x.1)))

    -- the owner of what was presented was presented
    owner_there : (i j : ℕ) → StandsIn p g i (value_of j) → In i h → In j h
    owner_there i j (x, a, s, m, d) n =
        let w = In-At h i n in
        let y = pick_from g h gs pick w.0 i w.1 in
        let same : y.0 ≡ x = At-same g i y.0 x y.2 a in
        go w.0 (subst (λ z. StandsAt gs w.0 z) same y.1) (leads_up p gs sound_too.referenced w.0 x (subst (λ z. StandsAt gs w.0 z) same y.1))
      where
        go : (k : ℕ) → StandsAt gs k x → ((is : List ℕ) × LeadsUp p gs (value_of k) is) → In j h
        go k b ([], l) = let bad : value_of k ≡ payload = l in cc
        go k b (n ∷ is, (e, u, (z, c, t, q, f), l)) =
            let num : k ≡ n = value_injective k n e in
            let zx : z ≡ x = At-same gs n z x c (subst (λ v. StandsAt gs v x) num b) in
            let td : t.digest ≡ x.digest = f ∙ ap (λ (v : Given). v.digest) zx in
            ⊎_elim
            (λ v.
            let inside : In t (sites p) = subst (λ (y : OwnedSite). In y.site (sites p)) (sym v.2) v.1 in
            absurd (payload_not_value j (ap (λ (y : OwnedSite). y.owner)
            (same_item p g sound.referenced.no_repeated_digest (owned_site payload t) (owned_site (value_of j) s) (in_payload p g sound.referenced t inside) m (td ∙ sym d)))))
            (λ v.
            let o = pick_at g h gs pick v.k v.x v.there in
            let inside : In t (sites v.x.value) = subst (λ (y : Site). In y (sites v.x.value)) (sym (ap (λ (y : OwnedSite). y.site) v.is)) v.inside in
            let same = value_injective o.0 j (ap (λ (y : OwnedSite). y.owner)
            (same_item p g sound.referenced.no_repeated_digest (owned_site (value_of o.0) t) (owned_site (value_of j) s) (in_value p g sound.referenced o.0 v.x t o.2 inside) m (td ∙ sym d))) in
            subst (λ y. In y h) same (At-In h v.k o.0 o.1))
            (met_item p gs (owned_site u t) q)

    abbrev AllIn : List ℕ → Type 0
    AllIn is = (j : ℕ) → In j is → In j h

    site_in : (t : Tree) (s : Site) → Shows (reveal (length g) g) (sites t) s → In s (sites t)
    site_in t s shows = subst (λ (ss : List Site). In s ss) (sym shows.is) (In-right s shows.before (s ∷ shows.after) (inl refl))

    above_value : (above : List ℕ) (i j : ℕ) (y : Given) → StandsAt g j y → HasNoReserved (strip (opened (length g) g y.value)) → In (i, above) (ways (opened (length g) g y.value)) → In i h → AllIn above × In j h
    above_value [] i j y a none m n =
        let l = shown_back (reveal (length g) g) y.value (i, []) (readable.in_values y (At-In g j y a)) none m in
        let b = shown_from p g sound.referenced ShownFree l.0.digest (i, []) l.2 l.1.free in
        ⊎_elim
        (λ e. ((λ c o. absurd o), owner_there i j (subst (λ z. StandsIn p g z (value_of j)) (sym e.0) (b.x, b.there, l.0, in_value p g sound.referenced j y l.0 a (site_in y.value l.0 l.1), sym b.digest)) n))
        (λ r. let bad : ◌≡◌ {A = List ℕ} [] (b.k ∷ r.0) = r.1 in cc)
        (way_step b.k i [] (ways (opened (length g) g b.x.value)) b.way)
    above_value (c ∷ above) i j y a none m n =
        let l = shown_back (reveal (length g) g) y.value (i, c ∷ above) (readable.in_values y (At-In g j y a)) none m in
        let b = shown_from p g sound.referenced ShownFree l.0.digest (i, c ∷ above) l.2 l.1.free in
        ⊎_elim
        (λ e. let bad : c ∷ above ≡ [] = e.1 in cc)
        (λ r.
        let same : above ≡ r.0 = let q : c ∷ above ≡ b.k ∷ r.0 = r.1 in cc in
        let first : c ≡ b.k = let q : c ∷ above ≡ b.k ∷ r.0 = r.1 in cc in
        let up = above_value above i b.k b.x b.there (value_free b.k b.x.name (opened (length g) g b.x.value) b.fine) (subst (λ z. In (i, z) (ways (opened (length g) g b.x.value))) (sym same) r.2) n in (
          (λ k o. ⊎_elim (λ e. subst (λ z. In z h) (sym (e ∙ first)) up.1) (λ z. up.0 k z) o),
          owner_there b.k j (b.x, b.there, l.0, in_value p g sound.referenced j y l.0 a (site_in y.value l.0 l.1), sym b.digest) up.1,
        ))
        (way_step b.k i (c ∷ above) (ways (opened (length g) g b.x.value)) b.way)

    settles : processed p g ≡ opened (length g) g p
    settles = processed_settles p g sound.referenced

    above_all : (v : Way) → In v (ways (opened (length g) g p)) → In v.0 h → AllIn v.1
    above_all v m n =
        let l = shown_back (reveal (length g) g) p v readable.in_payload (subst (λ z. HasNoReserved (strip z)) settles free) m in
        let b = shown_from p g sound.referenced ShownFree l.0.digest v l.2 l.1.free in
        ⊎_elim
        (λ e k o. absurd (subst (λ z. In k z) e.1 o))
        (λ r.
        let up = above_value r.0 v.0 b.k b.x b.there (value_free b.k b.x.name (opened (length g) g b.x.value) b.fine) r.2 n in
        λ k o. ⊎_elim (λ e. subst (λ z. In z h) (sym e) up.1) (λ z. up.0 k z) (subst (λ z. In k z) r.1 o))
        (way_step b.k v.0 v.1 (ways (opened (length g) g b.x.value)) b.way)

    honest : IsHonest (processed p g) p g gs
    honest =
        let s : ℕ → Bool = has h in
        let all : Enumerates s h = record { distinct = distinct-from h numbers_differ; within = λ i m. In-has h i m; whole = λ i e. has-In h i e } in
        let closed : IsClosed (processed p g) s = closed_by_ways (processed p g) s (λ v m t j n. In-has h j (above_all v (subst (λ z. In v (ways z)) settles m) (has-In h v.0 t) j n)) in
        let result = presentation_holds p g readable sound s
        (λ i e. let a = In-At h i (has-In h i e) in let x = pick_from g h gs pick a.0 i a.1 in At-below g i x.0 x.2)
        closed h all gs pick in
        record {
          order = h;
          once = all.distinct;
          pick = pick;
          closed = closed;
          shows = ap strip result.pruned
              ∙ strip_placed s (position_from 0 h) (λ i e. let a = In-At h i (has-In h i e) in (a.0, place_at 0 h a.0 a.0 i numbers_differ a.1 (omega arith))) (processed p g);
        }

pub none_forged : (p : Tree) (g : List Given) → IsReadable p g → IsSound p g → HasNoReserved (strip (processed p g)) → (gs : List Given) → IsSound p gs → NoneForged p g gs → IsHonest (processed p g) p g gs
none_forged p g readable sound free gs sound_too known =
    let w = positions g gs (issued p g readable sound free gs sound_too known) in
    honest p g readable sound free gs sound_too known w.0 w.1

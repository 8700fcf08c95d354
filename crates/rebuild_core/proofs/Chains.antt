-- Each disclosure stands at one site, and the owners of the sites lead up to the payload.
use Rattle.std.proofs.Common.{◌≡◌, ℕ, zero, suc, ◌+◌, ◌<◌, ◌≤◌, List, [], ◌∷◌, map, length, Bool, true, false, cond, eqb, ◌&&◌, ⊎_elim, refl, sym, ap, ap₂, ◌∙◌, subst, arith, eqb-true}
use Rattle.std.specs.List.{list_any, IsDistinct, AllByRecursion}
use Rattle.std.proofs.lemmas.Map.Steps.{length-le_from_distinct_below}
use Rattle.std.proofs.lemmas.Bool.{or_cases, and_parts, true_from_ne_false}
use Rattle.claim_tree.specs.Tree.{Tree}
use Rattle.sd_outside.specs.Lists.{StandsAt, In, AtNone}
use Rattle.digest_sites.specs.Sites.{Site, sites}
use Rattle.digest_sites.specs.Given.{Given}
use Rattle.rebuild_core.specs.Reached.{stands, is_in_round, is_reached, Owner, payload, value_of, OwnedSite, owned_site, value_sites, met}
use Rattle.rebuild_core.specs.Conditions.{RepeatedDigest}
use Rattle.rebuild_core.specs.Soundness.{IsReferencedOnce}
use Rattle.rebuild_core.specs.Laws.{StandsIn, LeadsUp}
use Rattle.sd_outside.proofs.Lists.{In-left, In-right, In-map, In-At, At-same, At-below, same_by_image, list_any-In}
use Rattle.rebuild_core.proofs.Found.{stands-In}

-- a site of a value that passes is an item
pub item_of_value : (p : Given → Bool) (g : List Given) (i k n : ℕ) (x : Given) (s : Site) → n ≡ i + k → StandsAt g k x → p x ≡ true → In s (sites x.value) → In (owned_site (value_of n) s) (value_sites p i g)
item_of_value p (y ∷ g) i zero n x s e a t m =
    let b : n ≡ i = omega arith in
    let z : x ≡ y = a in
    In-left _ (cond (p y) (map (owned_site (value_of i)) (sites y.value)) []) (value_sites p (suc i) g)
    (rw (← z, t, b) (In-map (owned_site (value_of i)) s (sites x.value) m))
item_of_value p (y ∷ g) i (suc k) n x s e a t m =
    In-right _ (cond (p y) (map (owned_site (value_of i)) (sites y.value)) []) (value_sites p (suc i) g)
    (item_of_value p g (suc i) k n x s (omega arith) a t m)
item_of_value p [] i k n x s e a t m = elim a [ ]

pub value_injective : (i j : ℕ) → value_of i ≡ value_of j → i ≡ j
value_injective i j e = cc

module _ (p : Tree) (g : List Given) (once : AtNone (RepeatedDigest p g)) where
  -- two items with one digest are the same
  pub same_item : (a b : OwnedSite) → In a (met p g) → In b (met p g) → a.site.digest ≡ b.site.digest → a ≡ b
  same_item a b h k e = same_by_image (λ m. m.site.digest) (met p g) once a b h k e

  pub same_owner : (i : ℕ) (o u : Owner) → StandsIn p g i o → StandsIn p g i u → o ≡ u
  same_owner i o u (x, a, s, m, e) (y, b, t, n, f) =
      ap (λ (z : OwnedSite). z.owner) (same_item (owned_site o s) (owned_site u t) m n (e ∙ ap (λ (z : Given). z.digest) (At-same g i x y a b) ∙ sym f))

  -- one chain of owners
  pub same_chain : (o : Owner) (is js : List ℕ) → LeadsUp p g o is → LeadsUp p g o js → is ≡ js
  same_chain o [] [] h k = refl
  same_chain o [] (j ∷ js) h (e, u, s, l) = let f : payload ≡ value_of j = sym h ∙ e in cc
  same_chain o (i ∷ is) [] (e, u, s, l) h = let f : payload ≡ value_of i = sym h ∙ e in cc
  same_chain o (i ∷ is) (j ∷ js) (e, u, s, l) (f, v, t, m) =
      let w : j ≡ i = value_injective j i (sym f ∙ e) in
      let same : u ≡ v = same_owner i u v s (subst (λ k. StandsIn p g k v) w t) in
      let rest : is ≡ js = same_chain u is js l (subst (λ z. LeadsUp p g z js) (sym same) m) in
      ap₂ (λ (k : ℕ) (ks : List ℕ). k ∷ ks) (sym w) rest

  -- no disclosure stands twice in a chain
  apart : (i n : ℕ) → ((js : List ℕ) → LeadsUp p g (value_of i) js → length js ≡ suc n)
      → (u : Owner) (is : List ℕ) → LeadsUp p g u is → length is ≤ n → AllByRecursion (λ j. eqb i j ≡ false) is
  apart i n long u [] h b = tt
  apart i n long u (k ∷ is) (e, v, s, l) b = (differ (eqb i k) refl, apart i n long v is l (omega arith))
    where
      differ : (c : Bool) → eqb i k ≡ c → eqb i k ≡ false
      differ false q = q
      differ true q =
          let same : i ≡ k = eqb-true i k q in
          absurd (omega (arith, long (k ∷ is) (ap value_of same, v, s, l)))

  pub distinct : (u : Owner) (is : List ℕ) → LeadsUp p g u is → IsDistinct eqb is
  unfolding IsDistinct
  distinct u [] h = tt
  distinct u (i ∷ is) (e, v, s, l) = (
    apart i (length is) (λ js k. ap length (same_chain (value_of i) js (i ∷ is) k (refl, v, s, l))) v is l (omega arith),
    distinct v is l,
  )

  below : (u : Owner) (is : List ℕ) → LeadsUp p g u is → (q : ℕ) → list_any (eqb q) is ≡ true → q < length g
  below u [] h q e = cc
  below u (i ∷ is) (e, v, s, l) q h =
      ⊎_elim (λ a. omega (arith, At-below g i s.0 s.1, eqb-true q i a)) (λ b. below v is l q b) (or_cases (eqb q i) (list_any (eqb q) is) h)

  pub short : (u : Owner) (is : List ℕ) → LeadsUp p g u is → length is ≤ length g
  short u is h = length-le_from_distinct_below is (length g) (distinct u is h) (below u is h)

module _ (p : Tree) (g : List Given) (ok : IsReferencedOnce p g) where
  pub reached_all : (i : ℕ) (x : Given) → StandsAt g i x → is_reached p g x ≡ true
  reached_all i x a = true_from_ne_false _ (λ e. ok.no_unreferenced i (x, a, e))

  pub in_payload : (s : Site) → In s (sites p) → In (owned_site payload s) (met p g)
  in_payload s m = In-left _ (map (owned_site payload) (sites p)) (value_sites (is_reached p g) 0 g) (In-map (owned_site payload) s (sites p) m)

  pub in_value : (i : ℕ) (x : Given) (s : Site) → StandsAt g i x → In s (sites x.value) → In (owned_site (value_of i) s) (met p g)
  in_value i x s a m =
      In-right _ (map (owned_site payload) (sites p)) (value_sites (is_reached p g) 0 g)
      (item_of_value (is_reached p g) g 0 i i x s (omega arith) a (reached_all i x a) m)

  pub short_chain : (u : Owner) (is : List ℕ) → LeadsUp p g u is → length is ≤ length g
  short_chain u is h = short p g ok.no_repeated_digest u is h

  -- a disclosure of a round leads up to the payload
  chain : (r i : ℕ) (x : Given) → StandsAt g i x → is_in_round p g r x.digest ≡ true → (is : List ℕ) × LeadsUp p g (value_of i) is
  chain zero i x a h =
      let w = stands-In x.digest (sites p) h in
      (i ∷ [], (refl, payload, (x, a, w.0, in_payload w.0 w.1, w.2), refl))
  chain (suc r) i x a h =
      ⊎_elim (λ l. chain r i x a l)
      (λ l. let w = list_any-In (λ y. is_in_round p g r y.digest && stands x.digest (sites y.value)) g l in
      let y = w.0 in
      let b = In-At g y w.1 in
      let parts = and_parts (is_in_round p g r y.digest) (stands x.digest (sites y.value)) w.2 in
      let s = stands-In x.digest (sites y.value) parts.1 in
      let up = chain r b.0 y b.1 parts.0 in
      (i ∷ up.0, (refl, value_of b.0, (x, a, s.0, in_value b.0 y s.0 b.1 s.1, s.2), up.1)))
      (or_cases (is_in_round p g r x.digest) _ h)

  pub leads_up : (i : ℕ) (x : Given) → StandsAt g i x → (is : List ℕ) × LeadsUp p g (value_of i) is
  leads_up i x a = chain (length g) i x a (reached_all i x a)

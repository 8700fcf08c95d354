-- Where conditions 18 to 20 hold, the sites of the payload and of each value fit what they show.
use Rattle.std.proofs.Common.{◌≡◌, ℕ, zero, suc, ◌+◌, ◌<◌, List, [], ◌∷◌, map, Bool, true, cond, inl, inr, Option, Some, None, refl, sym, ap, ◌∙◌, subst, arith}
use Rattle.claim_tree.specs.Tree.{Text, Tree}
use Rattle.sd_outside.specs.Lists.{StandsAt, In}
use Rattle.digest_sites.specs.Sites.{sites}
use Rattle.digest_sites.specs.Given.{Given}
use Rattle.digest_sites.specs.declared.site.SiteKind.{SiteKind}
use Rattle.digest_sites.specs.declared.site.SiteKind.TheVariants.{Member}
use Rattle.rebuild_core.specs.Reached.{find, is_reached, payload, value_of, OwnedSite, owned_site, value_sites, met}
use Rattle.rebuild_core.specs.Opening.{Shown, shown_by, reveal, open_tree}
use Rattle.rebuild_core.specs.Conditions.{IsWrong, Discloses}
use Rattle.rebuild_core.specs.Soundness.{IsReferencedOnce, IsWellNamed}
use Rattle.sd_outside.proofs.Lists.{In-At, At-In}
use Rattle.rebuild_core.proofs.Found.{found}
use Rattle.rebuild_core.proofs.Chains.{in_payload, in_value, reached_all}
use Rattle.rebuild_core.proofs.Fits.{Pairwise, Pairwise-left, Pairwise-right, Pairwise-of_map, Suits, Names, NamesApart, AreFit}

pub Pairwise-from : {X : Type 0} (R : X → X → Type 0) (xs : List X) → ((j q : ℕ) (a b : X) → j < q → StandsAt xs j a → StandsAt xs q b → R a b) → Pairwise R xs
Pairwise-from R [] h = tt
Pairwise-from R (x ∷ xs) h = (
  (λ y m. let w = In-At xs y m in h 0 (suc w.0) x y (omega arith) refl w.1),
  Pairwise-from R xs (λ j q a b l m n. h (suc j) (suc q) a b (omega arith) m n),
)

pub Pairwise-at : {X : Type 0} (R : X → X → Type 0) (xs : List X) → Pairwise R xs → (j q : ℕ) (a b : X) → j < q → StandsAt xs j a → StandsAt xs q b → R a b
Pairwise-at R (x ∷ xs) h zero zero a b l m n = absurd (omega arith)
Pairwise-at R (x ∷ xs) h zero (suc q) a b l m n = subst (λ z. R z b) (sym m) (h.0 b (At-In xs q b n))
Pairwise-at R (x ∷ xs) h (suc j) zero a b l m n = absurd (omega arith)
Pairwise-at R (x ∷ xs) h (suc j) (suc q) a b l m n = Pairwise-at R xs h.1 j q a b (omega arith) m n
Pairwise-at R [] h j q a b l m n = elim m [ ]

-- the sites of one value among the items
pub value_part : (R : OwnedSite → OwnedSite → Type 0) (p : Given → Bool) (g : List Given) (i k n : ℕ) (x : Given) → n ≡ i + k → StandsAt g k x → p x ≡ true
    → Pairwise R (value_sites p i g) → Pairwise R (map (owned_site (value_of n)) (sites x.value))
value_part R p (y ∷ g) i zero n x e a t h =
    let b : n ≡ i = omega arith in
    let z : x ≡ y = a in
    let u : p y ≡ true = ap p (sym a) ∙ t in
    let part = Pairwise-left R (cond (p y) (map (owned_site (value_of i)) (sites y.value)) []) (value_sites p (suc i) g) h in
    let here : Pairwise R (map (owned_site (value_of i)) (sites y.value)) = subst (λ c. Pairwise R (cond c (map (owned_site (value_of i)) (sites y.value)) [])) u part in
    subst (λ (v : Given). Pairwise R (map (owned_site (value_of n)) (sites v.value))) (sym z) (subst (λ c. Pairwise R (map (owned_site (value_of c)) (sites y.value))) (sym b) here)
value_part R p (y ∷ g) i (suc k) n x e a t h =
    value_part R p g (suc i) k n x (omega arith) a t (Pairwise-right R (cond (p y) (map (owned_site (value_of i)) (sites y.value)) []) (value_sites p (suc i) g) h)
value_part R p [] i k n x e a t h = elim a [ ]

-- what is shown comes from a disclosure with that digest
pub suits_from : (f : ℕ) (g : List Given) (d : Text) (k : SiteKind) → ((i : ℕ) (x : Given) → StandsAt g i x → x.digest ≡ d → IsWrong k x.name → ⊥) → Suits k (reveal f g d)
suits_from zero g d k h = tt
suits_from (suc f) g d k h = go (find g d) refl
  where
    go : (o : Option (ℕ × Given)) → find g d ≡ o → Suits k (shown_by (open_tree (reveal f g)) o)
    go None e = tt
    go (Some (j, x)) e = let w = found 0 g d j x e in h w.0 x w.1 w.2

pub names_from : (f : ℕ) (g : List Given) (d k : Text) → Names (reveal f g d) k → (i : ℕ) × (x : Given) × StandsAt g i x × (x.digest ≡ d) × (x.name ≡ Some k)
names_from zero g d k h = absurd h
names_from (suc f) g d k h = go (find g d) refl h
  where
    go : (o : Option (ℕ × Given)) → find g d ≡ o → Names (shown_by (open_tree (reveal f g)) o) k → (i : ℕ) × (x : Given) × StandsAt g i x × (x.digest ≡ d) × (x.name ≡ Some k)
    go None e n = absurd n
    go (Some (j, x)) e n = let w = found 0 g d j x e in (w.0, x, w.1, w.2, n)

abbrev pub ItemsApart : (Text → Shown) → OwnedSite → OwnedSite → Type 0
ItemsApart r a b = a.owner ≡ b.owner → NamesApart r a.site b.site

module _ (p : Tree) (g : List Given) (ok : IsReferencedOnce p g) (named : IsWellNamed p g) (f : ℕ) where
  discloses : (m : OwnedSite) (k : Text) → m.site.kind ≡ Member → Names (reveal f g m.site.digest) k → Discloses g m k
  discloses m k e n = let w = names_from f g m.site.digest k n in (e, w.1, At-In g w.0 w.1 w.2, w.3, w.4)

  items_suit : (m : OwnedSite) → In m (met p g) → Suits m.site.kind (reveal f g m.site.digest)
  items_suit m h = suits_from f g m.site.digest m.site.kind (λ i x a e wrong. named.no_wrong_shape i (x, a, m, h, sym e, wrong))

  items_fresh : (m : OwnedSite) → In m (met p g) → m.site.kind ≡ Member → (k : Text) → Names (reveal f g m.site.digest) k → In k m.site.beside → ⊥
  items_fresh m h e k n i = let w = In-At (met p g) m h in named.no_name_clash w.0 (m, w.1, k, discloses m k e n, inl i)

  items_apart : Pairwise (ItemsApart (reveal f g)) (met p g)
  items_apart =
      Pairwise-from (ItemsApart (reveal f g)) (met p g)
      (λ j q a b l m n o s ka kb k na nb. named.no_name_clash q (b, n, k, discloses b k kb nb, inr (j, l, a, m, o, s, discloses a k ka na)))

  pub payload_fits : AreFit (reveal f g) (sites p)
  payload_fits = record {
    suits = λ s m. items_suit (owned_site payload s) (in_payload p g ok s m);
    fresh = λ s m. items_fresh (owned_site payload s) (in_payload p g ok s m);
    apart =
        Pairwise-of_map (NamesApart (reveal f g)) (ItemsApart (reveal f g)) (owned_site payload) (λ x y h. h refl) (sites p)
        (Pairwise-left (ItemsApart (reveal f g)) (map (owned_site payload) (sites p)) (value_sites (is_reached p g) 0 g) items_apart);
  }

  pub value_fits : (i : ℕ) (x : Given) → StandsAt g i x → AreFit (reveal f g) (sites x.value)
  value_fits i x a = record {
    suits = λ s m. items_suit (owned_site (value_of i) s) (in_value p g ok i x s a m);
    fresh = λ s m. items_fresh (owned_site (value_of i) s) (in_value p g ok i x s a m);
    apart =
        Pairwise-of_map (NamesApart (reveal f g)) (ItemsApart (reveal f g)) (owned_site (value_of i)) (λ x y h. h refl) (sites x.value)
        (value_part (ItemsApart (reveal f g)) (is_reached p g) g 0 i i x (omega arith) a (reached_all p g ok i x a)
        (Pairwise-right (ItemsApart (reveal f g)) (map (owned_site payload) (sites p)) (value_sites (is_reached p g) 0 g) items_apart));
  }

-- ---- the payload without `_sd_alg`

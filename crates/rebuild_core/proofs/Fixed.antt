-- With enough fuel each disclosure shows its value opened with that same fuel; and sums over the met list.
use Rattle.std.proofs.Common.{◌≡◌, ℕ, zero, suc, ◌+◌, ◌≤◌, List, [], ◌∷◌, map, length, Bool, true, false, cond, ◌⊎◌, inl, inr, Option, Some, None, refl, sym, ap, ap₂, ◌∙◌, subst, arith}
use Rattle.std.specs.Prelude.{bytes_eq}
use Rattle.claim_tree.specs.Tree.{Text, Tree}
use Rattle.sd_outside.specs.Lists.{StandsAt, In, Repeats, AtNone}
use Rattle.digest_sites.specs.Sites.{sites}
use Rattle.digest_sites.specs.Given.{Given}
use Rattle.rebuild_core.specs.Reached.{find_from, find, is_reached, payload, value_of, owned_site, value_sites, met, owned_digests, given_digests}
use Rattle.rebuild_core.specs.Opening.{Shown, nothing_shown, shown, reveal, opened}
use Rattle.rebuild_core.specs.Soundness.{IsReferencedOnce}
use Rattle.rebuild_core.specs.Laws.{LeadsUp}
use Rattle.sd_outside.proofs.Lists.{bytes_same, bytes_refl, In-At, At-In, At-map, At-below, In-map, In-of_map}
use Rattle.rebuild_core.proofs.Found.{found}
use Rattle.rebuild_core.proofs.Chains.{reached_all, leads_up, short_chain}
use Rattle.rebuild_core.proofs.Settled.{settled_value, before}
use Rattle.marked_tree.proofs.Sums.{sum_of, sum_of-append, sum_of-map}
use Rattle.rebuild_core.proofs.Sums.{same_sum, Apart-from}
use Rattle.rebuild_core.proofs.OneSite.{one_site_holds}

-- the item with a digest is found, where the digests differ
find_from_at : (i : ℕ) (g : List Given) (k j : ℕ) (x : Given) → AtNone (Repeats (given_digests g)) → StandsAt g k x → j ≡ i + k → find_from i g x.digest ≡ Some (j, x)
find_from_at i (y ∷ g) zero j x none a e =
    let h : bytes_eq y.digest x.digest ≡ true = bytes_refl y.digest x.digest (ap (λ (z : Given). z.digest) (sym a)) in
    let n : j ≡ i = omega arith in
    rw (h, n, ← a)
find_from_at i (y ∷ g) (suc k) j x none a e = go (bytes_eq y.digest x.digest) refl
    (find_from_at (suc i) g k j x (λ q r. none (suc q) (r.0, r.1, suc r.2, omega (arith, r.3), r.4)) a (omega arith))
  where
    go : (b : Bool) → bytes_eq y.digest x.digest ≡ b → find_from (suc i) g x.digest ≡ Some (j, x) → cond b (Some (i, y)) (find_from (suc i) g x.digest) ≡ Some (j, x)
    go true h ih = absurd (none (suc k) (x.digest, At-map (λ z. z.digest) g k x a, 0, omega arith, sym (bytes_same y.digest x.digest h)))
    go false h ih = ih
find_from_at i [] k j x none a e = elim a [ ]

pub find_at : (g : List Given) (k : ℕ) (x : Given) → AtNone (Repeats (given_digests g)) → StandsAt g k x → find g x.digest ≡ Some (k, x)
find_at g k x none a = find_from_at 0 g k k x none a (omega arith)

shown_known : (f j : ℕ) (g : List Given) (x : Given) → find g x.digest ≡ Some (j, x) → reveal (suc f) g x.digest ≡ shown j x.name (opened f g x.value)
shown_known f j g x h = rw h

pub unknown : (f : ℕ) (g : List Given) (d : Text) → find g d ≡ None → reveal f g d ≡ nothing_shown
unknown zero g d h = refl
unknown (suc f) g d h = rw h

module _ (p : Tree) (g : List Given) (ok : IsReferencedOnce p g) where
  pub full : Text → Shown
  full = reveal (length g) g

  pub value_settles : (j : ℕ) (x : Given) → StandsAt g j x → (f : ℕ) → length g ≤ suc f → opened f g x.value ≡ opened (length g) g x.value
  value_settles j x a f l = go (leads_up p g ok j x a)
    where
      go : ((is : List ℕ) × LeadsUp p g (value_of j) is) → opened f g x.value ≡ opened (length g) g x.value
      go ([], up) = let e : value_of j ≡ payload = up in cc
      go (i ∷ is, up) =
          let w = short_chain p g ok (value_of j) (i ∷ is) up in
          let v = before 0 (length g) (omega arith) in
          settled_value p g ok v.0 f (length g) j x (i ∷ is) a up (omega arith) (omega arith) (omega arith)

  -- the opening equation without fuel
  pub fixed : (j : ℕ) (x : Given) → StandsAt g j x → reveal (length g) g x.digest ≡ shown j x.name (opened (length g) g x.value)
  fixed j x a = go (length g) refl
    where
      go : (n : ℕ) → length g ≡ n → reveal n g x.digest ≡ shown j x.name (opened (length g) g x.value)
      go zero e = absurd (omega (arith, At-below g j x a))
      go (suc f) e = shown_known f j g x (find_at g j x ok.no_repeated_disclosure a) ∙ ap (shown j x.name) (value_settles j x a f (omega arith))

  pub processed_settles : opened (suc (length g)) g p ≡ opened (length g) g p
  processed_settles = (one_site_holds p g ok).settled (suc (length g)) (omega arith)

  values_sum : (f : Text → ℕ) (i : ℕ) (xs : List Given) → ((x : Given) → In x xs → is_reached p g x ≡ true)
      → sum_of (λ m. f m.site.digest) (value_sites (is_reached p g) i xs) ≡ sum_of (λ x. sum_of (λ s. f s.digest) (sites x.value)) xs
  values_sum f i [] all = refl
  values_sum f i (x ∷ xs) all =
      let t : is_reached p g x ≡ true = all x (inl refl) in
      rw t (sum_of-append (λ m. f m.site.digest) (map (owned_site (value_of i)) (sites x.value)) (value_sites (is_reached p g) (suc i) xs)
      ∙ ap₂ (λ (a b : ℕ). a + b) (sum_of-map (λ m. f m.site.digest) (owned_site (value_of i)) (sites x.value)) (values_sum f (suc i) xs (λ y m. all y (inr m))))

  met_sum : (f : Text → ℕ) → sum_of f (owned_digests (met p g)) ≡ sum_of (λ s. f s.digest) (sites p) + sum_of (λ x. sum_of (λ s. f s.digest) (sites x.value)) g
  met_sum f =
      sum_of-map f (λ m. m.site.digest) (met p g)
      ∙ sum_of-append (λ m. f m.site.digest) (map (owned_site payload) (sites p)) (value_sites (is_reached p g) 0 g)
      ∙ ap₂ (λ (a b : ℕ). a + b) (sum_of-map (λ m. f m.site.digest) (owned_site payload) (sites p))
      (values_sum f 0 g (λ x m. let w = In-At g x m in reached_all p g ok w.0 x w.1))

  -- a sum over the met list is one over the disclosures
  pub disclosures_sum : (f : Text → ℕ) → ((d : Text) → find g d ≡ None → f d ≡ 0)
      → sum_of (λ s. f s.digest) (sites p) + sum_of (λ x. sum_of (λ s. f s.digest) (sites x.value)) g ≡ sum_of (λ x. f x.digest) g
  disclosures_sum f none =
      sym (met_sum f)
      ∙ same_sum f (given_digests g) (owned_digests (met p g)) (Apart-from (owned_digests (met p g)) ok.no_repeated_digest) (Apart-from (given_digests g) ok.no_repeated_disclosure) stands counted
      ∙ sum_of-map f (λ (x : Given). x.digest) g
    where
      stands : (e : Text) → In e (given_digests g) → In e (owned_digests (met p g))
      stands e m =
          let w = In-of_map (λ (x : Given). x.digest) e g m in
          let a = In-At g w.0 w.1 in
          let q = (one_site_holds p g ok).once a.0 w.0 a.1 in
          subst (λ z. In z (owned_digests (met p g))) (sym w.2) (At-In (owned_digests (met p g)) q.0 w.0.digest q.1)

      counted : (d : Text) → In d (owned_digests (met p g)) → (f d ≡ 0) ⊎ In d (given_digests g)
      counted d m = go (find g d) refl
        where
          go : (o : Option (ℕ × Given)) → find g d ≡ o → (f d ≡ 0) ⊎ In d (given_digests g)
          go None h = inl (none d h)
          go (Some (j, x)) h =
              let w = found 0 g d j x h in
              inr (subst (λ z. In z (given_digests g)) w.2 (In-map (λ (y : Given). y.digest) x g (At-In g w.0 x w.1)))

-- The digests of what is issued that are of no disclosure stand where the order has its decoys.
use Rattle.std.proofs.Common.{◌≡◌, ℕ, zero, suc, ◌+◌, ◌≤◌, List, [], ◌∷◌, ◌++◌, map, length, Bool, true, false, cond, not, filter, ⊎_elim, Option, Some, None, refl, sym, ap, ap₂, ◌∙◌, subst, arith}
use Rattle.std.specs.Prelude.{bytes_eq}
use Rattle.std.specs.List.{count_by}
use Rattle.std.proofs.lemmas.List.Sums.{sum_by-cons}
use Rattle.std.proofs.lemmas.Bool.{false_from_ne_true}
use Rattle.sd_outside.specs.Lists.{StandsAt, In}
use Rattle.claim_tree.specs.Path.{tree_at}
use Rattle.claim_tree.specs.Tree.{Text, Tree, leaf, array, object}
use Rattle.sd_outside.proofs.Lists.{At-In, At-below, bytes_same}
use Rattle.digest_sites.specs.Given.{Given}
use Rattle.digest_sites.specs.declared.site.SiteKind.{SiteKind}
use Rattle.marked_tree.specs.Marked.{Marked}
use Rattle.marked_tree.specs.Paths.{Path}
use Rattle.rebuild_core.specs.Reached.{OwnedSite, given_digests, owned_digests, all_sites}
use Rattle.issuer_core.specs.Decoys.{decoys_of, earlier}
use Rattle.issuer_core.specs.Digests.{hidden_of, marked_claims, digests_from, decoy_digests, issued_digests}
use Rattle.issuer_core.specs.GoodOrder.{HoldsOthers, IsGoodOrder}
use Rattle.issuer_core.specs.Issued.{IsIssuedFor, IsDecoySite, occurs, origin}
use Rattle.issuer_core.specs.Order.{Order}
use Rattle.issuer_core.specs.Seed.{maker_of}
use Rattle.issuer_core.proofs.DecoyPlaces.{held_at}
use Rattle.issuer_core.proofs.IssuedForgery.{is_there}
use Rattle.issuer_core.proofs.NumberedDigests.{digest_stands}
use Rattle.issuer_core.proofs.IssuedSound.{once_at_most, there_once, there_twice}
use Rattle.audit_core.specs.Audited.{is_given, Standing, standing, decoy_standing, standings_from, same_standing, HasDecoys}
use Rattle.audit_core.proofs.Founds.{in_filter}
use Rattle.audit_core.proofs.IssuedDigests.{splits, in_rest, occurs_append, there_some, given_some, given_there}

-- ---- the sites whose digests are of no disclosure

module _ (is : Text → Bool) where
  abbrev others : List OwnedSite → List OwnedSite
  others xs = filter (λ (x : OwnedSite). not (is x.site.digest)) xs

  none_kept : (e : Text) → is e ≡ true → (xs : List OwnedSite) → occurs e (owned_digests (others xs)) ≡ 0
  none_kept e y [] = refl
  none_kept e y (x ∷ xs) = go (is x.site.digest) refl (none_kept e y xs)
    where
      go : (b : Bool) → is x.site.digest ≡ b → occurs e (owned_digests (others xs)) ≡ 0 → occurs e (owned_digests (cond (not b) (x ∷ others xs) (others xs))) ≡ 0
      go true q ih = ih
      go false q ih = step (bytes_eq x.site.digest e) refl
        where
          step : (c : Bool) → bytes_eq x.site.digest e ≡ c → cond c 1 0 + occurs e (owned_digests (others xs)) ≡ 0
          step true s = let clash : true ≡ false = sym y ∙ (ap is (sym (bytes_same x.site.digest e s)) ∙ q) in cc clash
          step false s = omega (arith, ih)

  all_kept : (e : Text) → is e ≡ false → (xs : List OwnedSite) → occurs e (owned_digests (others xs)) ≡ occurs e (owned_digests xs)
  all_kept e n [] = refl
  all_kept e n (x ∷ xs) = go (is x.site.digest) refl (all_kept e n xs)
    where
      go : (b : Bool) → is x.site.digest ≡ b → occurs e (owned_digests (others xs)) ≡ occurs e (owned_digests xs)
          → occurs e (owned_digests (cond (not b) (x ∷ others xs) (others xs))) ≡ cond (bytes_eq x.site.digest e) 1 0 + occurs e (owned_digests xs)
      go false q ih = omega (arith, ih)
      go true q ih = step (bytes_eq x.site.digest e) refl
        where
          step : (c : Bool) → bytes_eq x.site.digest e ≡ c → occurs e (owned_digests (others xs)) ≡ cond c 1 0 + occurs e (owned_digests xs)
          step true s = let clash : true ≡ false = sym q ∙ (ap is (bytes_same x.site.digest e s) ∙ n) in cc clash
          step false s = omega (arith, ih)

-- ---- sites and decoys with the same digests

occurs_site : (e : Text) (x : OwnedSite) (us vs : List OwnedSite) → occurs e (owned_digests (us ++ x ∷ vs)) ≡ cond (bytes_eq x.site.digest e) 1 0 + occurs e (owned_digests (us ++ vs))
occurs_site e x [] vs = refl
occurs_site e x (u ∷ us) vs = omega (arith, occurs_site e x us vs)

count_first : (test : Standing → Bool) (x : Standing) (xs : List Standing) → count_by test (x ∷ xs) ≡ cond (test x) 1 0 + count_by test xs
count_first test x xs = sum_by-cons (λ (y : Standing). cond (test y) 1 0) x xs

count_site : (test : Standing → Bool) (st : OwnedSite → Standing) (x : OwnedSite) (us vs : List OwnedSite) → count_by test (map st (us ++ x ∷ vs)) ≡ cond (test (st x)) 1 0 + count_by test (map st (us ++ vs))
count_site test st x [] vs = count_first test (st x) (map st vs)
count_site test st x (u ∷ us) vs = omega (arith, count_site test st x us vs, count_first test (st u) (map st (us ++ x ∷ vs)), count_first test (st u) (map st (us ++ vs)))

module _ (f : ℕ → Text) (claims : Tree) (all : List Path) (st : OwnedSite → Standing) (test : Standing → Bool) where
  -- one of the sites has the digest with the number k, where the decoy with the number d stands
  record IsPlaced (xs : List OwnedSite) (k d : ℕ) (at : Path) : Type 0 where
    x : OwnedSite
    there : In x xs
    digest : x.site.digest ≡ f k
    stands : st x ∷ [] ≡ decoy_standing at (earlier d at all) (tree_at claims at)

  -- sites that have the digests of decoys, each once, stand where these do
  matched : (k d : ℕ) (places : List Path) (xs : List OwnedSite) → ((e : Text) → occurs e (owned_digests xs) ≡ occurs e (digests_from f k (length places))) → ((e : Text) → occurs e (digests_from f k (length places)) ≤ 1)
      → ((j : ℕ) (at : Path) → StandsAt places j at → IsPlaced xs (k + j) (d + j) at) → count_by test (map st xs) ≡ count_by test (standings_from claims all d places)
  matched k d [] [] same once placed = refl
  matched k d [] (x ∷ xs) same once placed = absurd (omega (arith, same x.site.digest, there_once x.site.digest (owned_digests (x ∷ xs)) 0 refl))
  matched k d (at ∷ places) xs same once placed =
      let e : k + 0 ≡ k = omega arith in
      let i : d + 0 ≡ d = omega arith in
      let h = subst (λ n. IsPlaced xs n d at) e (subst (λ n. IsPlaced xs (k + 0) n at) i (placed 0 at refl)) in
      let w = splits h.x xs h.there in
      without h w.0 w.1 w.2 (λ ys fewer left. matched (k + 1) (suc d) places ys fewer (λ z. omega (arith, once z)) left)
    where
      -- each later decoy has its site among the others
      later : (h : IsPlaced xs k d at) (us vs : List OwnedSite) → xs ≡ us ++ h.x ∷ vs → (j : ℕ) (place : Path) → StandsAt places j place → IsPlaced (us ++ vs) (k + 1 + j) (suc d + j) place
      later h us vs split j place a =
          let e : k + suc j ≡ k + 1 + j = omega arith in
          let i : d + suc j ≡ suc d + j = omega arith in
          let l = subst (λ n. IsPlaced xs n (suc d + j) place) e (subst (λ n. IsPlaced xs (k + suc j) n place) i (placed (suc j) place a)) in
          let there : In l.x (us ++ vs) =
          ⊎_elim
          (λ same_site.
          let again : f (k + 1 + j) ≡ f k = sym l.digest ∙ (ap (λ (z : OwnedSite). z.site.digest) same_site ∙ h.digest) in
          let stands = subst (λ (t : Text). StandsAt (digests_from f (k + 1) (length places)) j t) again (digest_stands f (k + 1) (length places) j (k + 1 + j) (At-below places j place a) refl) in
          absurd (omega (arith, once (f k), there_twice (f k) (digests_from f k (suc (length places))) 0 (suc j) (omega arith) refl stands)))
          (λ m. m) (in_rest h.x l.x us vs (subst (λ (zs : List OwnedSite). In l.x zs) split l.there)) in
          record { x = l.x; there = there; digest = l.digest; stands = l.stands }

      without : (h : IsPlaced xs k d at) (us vs : List OwnedSite) → xs ≡ us ++ h.x ∷ vs
          → ((ys : List OwnedSite) → ((z : Text) → occurs z (owned_digests ys) ≡ occurs z (digests_from f (k + 1) (length places))) → ((j : ℕ) (place : Path) → StandsAt places j place → IsPlaced ys (k + 1 + j) (suc d + j) place)
          → count_by test (map st ys) ≡ count_by test (standings_from claims all (suc d) places))
          → count_by test (map st xs) ≡ count_by test (standings_from claims all d (at ∷ places))
      without h us vs split goes =
          let fewer : (z : Text) → occurs z (owned_digests (us ++ vs)) ≡ occurs z (digests_from f (k + 1) (length places)) = λ z.
          omega (arith, same z, ap (λ (ys : List OwnedSite). occurs z (owned_digests ys)) split, occurs_site z h.x us vs, ap {B = ℕ} (λ (t : Text). cond (bytes_eq t z) 1 0) h.digest) in
          let rest = goes (us ++ vs) fewer (later h us vs split) in
          subst (λ (s : List Standing). count_by test (map st xs) ≡ count_by test (s ++ standings_from claims all (suc d) places)) h.stands
          (omega (arith, ap (λ (ys : List OwnedSite). count_by test (map st ys)) split, count_site test st h.x us vs, rest, count_first test (st h.x) (standings_from claims all (suc d) places)))

-- ---- an order

none_if : (n : ℕ) → (1 ≤ n → ⊥) → n ≡ 0
none_if zero out = refl
none_if (suc n) out = absurd (out (omega arith))

-- the site of a decoy stands where it is put
stands_there : (m : Marked) (x : OwnedSite) (at : Path) (many : ℕ) (t : Option Tree) → HoldsOthers t → IsDecoySite m x at many t → standing x.site.kind (origin m x) ∷ [] ≡ decoy_standing at many t
stands_there m x at many (Some (object ms)) held is = ap (λ (s : Standing). s ∷ []) (ap₂ (λ (k : SiteKind) (q : Path). standing k q) is.0 is.1)
stands_there m x at many (Some (array es)) held is = ap (λ (s : Standing). s ∷ []) (ap₂ (λ (k : SiteKind) (q : Path). standing k q) is.0 is.1)
stands_there m x at many (Some (leaf l)) held is = absurd held
stands_there m x at many None held is = absurd held

module _ (seed : List ℕ) (o : Order) (p : Tree) (g : List Given) (fine : IsGoodOrder o) (issued : IsIssuedFor (maker_of seed) o p g) where
  abbrev number : ℕ → Text
  number k = (maker_of seed).digest o.hash ((maker_of seed).piece k)

  abbrev found : List OwnedSite
  found = filter (λ (x : OwnedSite). not (is_given g x.site.digest)) (all_sites p g)

  both : (e : Text) → occurs e (issued_digests (maker_of seed) o g) ≡ occurs e (given_digests g) + occurs e (decoy_digests (maker_of seed) o)
  both e = occurs_append e (given_digests g) (decoy_digests (maker_of seed) o)

  once : (e : Text) → occurs e (issued_digests (maker_of seed) o g) ≤ 1
  once e = once_at_most e (issued_digests (maker_of seed) o g) issued.differ

  same : (e : Text) → occurs e (owned_digests found) ≡ occurs e (decoy_digests (maker_of seed) o)
  same e = go (is_given g e) refl
    where
      go : (b : Bool) → is_given g e ≡ b → occurs e (owned_digests found) ≡ occurs e (decoy_digests (maker_of seed) o)
      go true q = omega (arith, none_kept (is_given g) e q (all_sites p g), once e, both e, there_some e (given_digests g) (given_there g e q))
      go false q =
          let none : occurs e (given_digests g) ≡ 0 = none_if (occurs e (given_digests g)) (λ l. let clash : true ≡ false = sym (given_some g e (is_there e (given_digests g) l)) ∙ q in cc clash) in
          omega (arith, all_kept (is_given g) e q (all_sites p g), issued.each_once e, both e, none)

  abbrev stand : OwnedSite → Standing
  stand x = standing x.site.kind (origin (marked_claims o) x)

  placed : (test : Standing → Bool) (j : ℕ) (at : Path) → StandsAt (decoys_of o) j at → IsPlaced number o.payload (decoys_of o) stand test found (hidden_of o + j) j at
  placed test j at a =
      let w = issued.decoys j at a in
      let x = w.0 in
      let decoy : 1 ≤ occurs x.site.digest (decoy_digests (maker_of seed) o) = there_once x.site.digest (decoy_digests (maker_of seed) o) j
      (subst (λ (t : Text). StandsAt (decoy_digests (maker_of seed) o) j t) (sym w.2) (digest_stands number (hidden_of o) (length (decoys_of o)) j (hidden_of o + j) (At-below (decoys_of o) j at a) refl)) in
      let out : is_given g x.site.digest ≡ false = false_from_ne_true (is_given g x.site.digest)
      (λ q. absurd (omega (arith, once x.site.digest, both x.site.digest, decoy, there_some x.site.digest (given_digests g) (given_there g x.site.digest q)))) in
      record {
        x = x;
        there = in_filter (λ (y : OwnedSite). not (is_given g y.site.digest)) x (all_sites p g) w.1 (ap not out);
        digest = w.2;
        stands = stands_there (marked_claims o) x at (earlier j at (decoys_of o)) (tree_at o.payload at) (held_at o fine at (At-In (decoys_of o) j at a)) w.3;
      }

  pub has_decoys : HasDecoys o p g
  has_decoys x =
      matched number o.payload (decoys_of o) stand (same_standing x) (hidden_of o) 0 (decoys_of o) found same (λ e. omega (arith, once e, both e))
      (λ j at a. let e : j ≡ 0 + j = omega arith in subst (λ n. IsPlaced number o.payload (decoys_of o) stand (same_standing x) found (hidden_of o + j) n at) e (placed (same_standing x) j at a))

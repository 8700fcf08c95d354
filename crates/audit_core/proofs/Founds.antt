-- What is found of the sites of a token is what the definitions say of them.
use Rattle.std.proofs.Common.{◌≡◌, ℕ, suc, ◌+◌, List, [], ◌∷◌, ◌++◌, map, length, Bool, true, false, not, cond, Option, Some, inl, inr, refl, sym, ap, ap₂, ◌∙◌, subst, arith}
use Rattle.std.specs.Prelude.{filter, slice_get, unwrap_or}
use Rattle.std.proofs.lemmas.Bool.{true≢false, not-true}
use Rattle.std.proofs.lemmas.List.{length-append, length-map, map-append}
use Rattle.std.proofs.lemmas.List.Elements.{filter-append}
use Rattle.claim_tree.specs.Tree.{Text, Tree}
use Rattle.sd_outside.specs.Lists.{In, StandsAt}
use Rattle.sd_outside.proofs.Lists.{In-map, In-of_map}
use Rattle.digest_sites.specs.Given.{Given}
use Rattle.digest_sites.specs.Sites.{Site, sites}
use Rattle.digest_sites.specs.declared.site.Site as code
use Rattle.digest_sites.proofs.Moved.{beneath}
use Rattle.disclosure.specs.declared.digests.HashAlg.{HashAlg}
use Rattle.marked_tree.specs.Marked.{Marked}
use Rattle.marked_tree.specs.Paths.{Path, is_among, mark, hidden_count}
use Rattle.marked_tree.specs.Ways.{closing}
use Rattle.marked_tree.proofs.Closing.{marks_close_holds}
use Rattle.rebuild_core.specs.Reached.{Owner, payload, value_of, OwnedSite, owned_site, value_sites, all_sites, all_digests}
use Rattle.issuer_core.specs.Issued as issued
use Rattle.audit_core.specs.Audited.{Standing, standing, IsDigestText, is_given, decoys_found}
use Rattle.audit_core.specs.AuditSteps.{standing_text}
use Rattle.audit_core.specs.Found.{AreOthers, AreDigests, site_text, trees_of, sites_in}
use Rattle.audit_core.specs.Places.{given_at}
use Rattle.audit_core.specs.Strange.{strange_at}
use Rattle.audit_core.proofs.ClosedPlaces.{values_on, closed}
use Rattle.audit_core.proofs.Stranges.{strange, strange_are}

-- ---- the strange ones at their places

abbrev pub is_strange : List Given → OwnedSite → Bool
is_strange g x = not (is_given g x.site.digest)

abbrev pub stand_of : Marked → OwnedSite → Standing
stand_of m x = standing x.site.kind (issued.origin m x)

abbrev located : Marked → OwnedSite → code.Site
located m x = beneath (issued.root_of m x.owner) x.site

abbrev pub all_located : Marked → List Given → List OwnedSite → List code.Site
all_located m g xs = map (located m) (filter (is_strange g) xs)

located-append : (m : Marked) (g : List Given) (xs ys : List OwnedSite) → all_located m g (xs ++ ys) ≡ all_located m g xs ++ all_located m g ys
located-append m g xs ys = ap (map (located m)) (filter-append (is_strange g) xs ys) ∙ map-append (located m) (filter (is_strange g) xs) (filter (is_strange g) ys)

owned_located : (m : Marked) (g : List Given) (w : Owner) (ss : List Site) → map (beneath (issued.root_of m w)) (strange g ss) ≡ all_located m g (map (owned_site w) ss)
owned_located m g w [] = refl
owned_located m g w (s ∷ ss) = go (is_given g s.digest) (owned_located m g w ss)
  where
    go : (b : Bool) → map (beneath (issued.root_of m w)) (strange g ss) ≡ all_located m g (map (owned_site w) ss)
        → map (beneath (issued.root_of m w)) (cond (not b) (s ∷ strange g ss) (strange g ss))
        ≡ map (located m) (cond (not b) (owned_site w s ∷ filter (is_strange g) (map (owned_site w) ss)) (filter (is_strange g) (map (owned_site w) ss)))
    go true ih = ih
    go false ih = ap (λ (xs : List code.Site). beneath (issued.root_of m w) s ∷ xs) ih

-- the digests that are known are those of the disclosures
abbrev AreKnown : List Given → (Text → Bool) → Type 0
AreKnown g known = (d : Text) → known d ≡ is_given g d

tree_located : (m : Marked) (g : List Given) (known : Text → Bool) → AreKnown g known → (w : Owner) (at : Path) (t : Tree) → at ≡ issued.root_of m w
    → strange_at known at t ≡ all_located m g (map (owned_site w) (sites t))
tree_located m g known same w at t e = strange_are known g same at t ∙ ap (λ (p : Path). map (beneath p) (strange g (sites t))) e ∙ owned_located m g w (sites t)

-- of the values from the number k on, at these paths
values_located : (m : Marked) (g : List Given) (known : Text → Bool) → AreKnown g known → (k : ℕ) (xs : List Given) (ps : List Path)
    → ((j : ℕ) → slice_get g (k + j) ≡ slice_get xs j) → ((j : ℕ) (q : Path) → StandsAt ps j q → q ≡ issued.root_of m (value_of (k + j))) → length xs ≡ length ps
    → values_on known g k ps ≡ all_located m g (value_sites (λ x. true) k xs)
values_located m g known same k [] [] there roots long = refl
values_located m g known same k [] (p ∷ ps) there roots long = absurd (omega (arith, long))
values_located m g known same k (x ∷ xs) [] there roots long = absurd (omega (arith, long))
values_located m g known same k (x ∷ xs) (p ∷ ps) there roots long =
    let here : k + 0 ≡ k = omega arith in
    let next : (j : ℕ) → k + suc j ≡ suc k + j = λ j. omega arith in
    let got : slice_get g k ≡ Some x = subst (λ n. slice_get g n ≡ Some x) here (there 0) in
    let root : p ≡ issued.root_of m (value_of k) = subst (λ n. p ≡ issued.root_of m (value_of n)) here (roots 0 p refl) in
    ap₂ (λ (us vs : List code.Site). us ++ vs)
    (ap (given_at known p) got ∙ tree_located m g known same (value_of k) p x.value root)
    (values_located m g known same (suc k) xs ps (λ j. subst (λ n. slice_get g n ≡ slice_get xs j) (next j) (there (suc j)))
    (λ j q a. subst (λ n. q ≡ issued.root_of m (value_of n)) (next j) (roots (suc j) q a)) (omega (arith, long)))
    ∙ sym (located-append m g (map (owned_site (value_of k)) (sites x.value)) (value_sites (λ x. true) (suc k) xs))

pub others_located : (t : Tree) (hide : List Path) (p : Tree) (g : List Given) (others : List code.Site) → length g ≡ hidden_count t hide
    → AreOthers (mark t hide) p g others → others ≡ all_located (mark t hide) g (all_sites p g)
others_located t hide p g others long a =
    let m = mark t hide in
    let close = marks_close_holds t hide in
    let from_none : (j : ℕ) → 0 + j ≡ j = λ j. omega arith in
    a.are
    ∙ ap₂ (λ (us vs : List code.Site). us ++ vs) (tree_located m g a.known a.same payload [] p refl)
    (closed a.known g t hide
    ∙ values_located m g a.known a.same 0 g (closing (is_among hide) t) (λ j. ap (slice_get g) (from_none j))
    (λ j q at. subst (λ n. q ≡ issued.root_of m (value_of n)) (sym (from_none j)) (ap (λ (o : Option Path). unwrap_or o []) (sym (close.places j q at)))) (long ∙ sym close.count))
    ∙ sym (located-append m g (map (owned_site payload) (sites p)) (value_sites (λ x. true) 0 g))

-- ---- where they stand

pub found_texts : (m : Marked) (p : Tree) (g : List Given) → map site_text (all_located m g (all_sites p g)) ≡ map standing_text (decoys_found m p g)
found_texts m p g = go (filter (is_strange g) (all_sites p g))
  where
    go : (xs : List OwnedSite) → map site_text (map (located m) xs) ≡ map standing_text (map (stand_of m) xs)
    go [] = refl
    go (x ∷ xs) = ap (λ (ts : List Text). standing_text (stand_of m x) ∷ ts) (go xs)

-- ---- how many they are

values_count : (k : ℕ) (xs : List Given) → length (value_sites (λ x. true) k xs) ≡ sites_in (map (λ (x : Given). x.value) xs)
values_count k [] = refl
values_count k (x ∷ xs) =
    length-append (map (owned_site (value_of k)) (sites x.value)) (value_sites (λ x. true) (suc k) xs)
    ∙ ap₂ ◌+◌ (length-map (sites x.value) (owned_site (value_of k))) (values_count (suc k) xs)

pub sites_count : (p : Tree) (g : List Given) → length (all_digests p g) ≡ sites_in (trees_of p g)
sites_count p g =
    length-map (all_sites p g) (λ (z : OwnedSite). z.site.digest)
    ∙ length-append (map (owned_site payload) (sites p)) (value_sites (λ x. true) 0 g)
    ∙ ap₂ ◌+◌ (length-map (sites p) (owned_site payload)) (values_count 0 g)

-- ---- their digests

abbrev pub Others : HashAlg → Tree → List Given → Type 0
Others hash p g = (digest : Text) → In digest (all_digests p g) → is_given g digest ≡ false → IsDigestText hash digest

pub in_filter : {X : Type 0} (test : X → Bool) (x : X) (xs : List X) → In x xs → test x ≡ true → In x (filter test xs)
in_filter test x [] m e = absurd m
in_filter test x (y ∷ ys) m e = go (test y) refl m (λ n. in_filter test x ys n e)
  where
    go : (b : Bool) → test y ≡ b → In x (y ∷ ys) → (In x ys → In x (filter test ys)) → In x (cond b (y ∷ filter test ys) (filter test ys))
    go true h (inl q) ih = inl q
    go true h (inr n) ih = inr (ih n)
    go false h (inl q) ih = absurd (true≢false (sym e ∙ ap test q ∙ h))
    go false h (inr n) ih = ih n

filter_in : {X : Type 0} (test : X → Bool) (x : X) (xs : List X) → In x (filter test xs) → In x xs × (test x ≡ true)
filter_in test x [] m = absurd m
filter_in test x (y ∷ ys) m = go (test y) refl m (λ n. filter_in test x ys n)
  where
    go : (b : Bool) → test y ≡ b → In x (cond b (y ∷ filter test ys) (filter test ys)) → (In x (filter test ys) → In x ys × (test x ≡ true)) → In x (y ∷ ys) × (test x ≡ true)
    go true h (inl q) ih = (inl q, ap test q ∙ h)
    go true h (inr n) ih = let w = ih n in (inr w.0, w.1)
    go false h n ih = let w = ih n in (inr w.0, w.1)

pub others_from : (hash : HashAlg) (m : Marked) (p : Tree) (g : List Given) → AreDigests hash (all_located m g (all_sites p g)) → Others hash p g
others_from hash m p g h digest there e =
    let z = In-of_map (λ (x : OwnedSite). x.site.digest) digest (all_sites p g) there in
    let other : is_strange g z.0 ≡ true = ap not (subst (λ d. is_given g d ≡ false) z.2 e) in
    subst (λ d. IsDigestText hash d) (sym z.2) (h (located m z.0) (In-map (located m) z.0 (filter (is_strange g) (all_sites p g)) (in_filter (is_strange g) z.0 (all_sites p g) z.1 other)))

pub from_others : (hash : HashAlg) (m : Marked) (p : Tree) (g : List Given) → Others hash p g → AreDigests hash (all_located m g (all_sites p g))
from_others hash m p g h s there =
    let z = In-of_map (located m) s (filter (is_strange g) (all_sites p g)) there in
    let w = filter_in (is_strange g) z.0 (all_sites p g) z.1 in
    subst (λ (x : code.Site). IsDigestText hash x.digest) (sym z.2) (h z.0.site.digest (In-map (λ (x : OwnedSite). x.site.digest) z.0 (all_sites p g) w.0) (not-true (is_given g z.0.site.digest) w.1))

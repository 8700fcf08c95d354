-- Where there are as many digests as disclosures, there are no others.
use Rattle.std.proofs.Common.{◌≡◌, ℕ, suc, ◌+◌, ◌≤◌, List, [], ◌∷◌, map, length, Bool, true, false, not, cond, ◌⊎◌, inl, inr, refl, sym, ap, ◌∙◌, subst, arith}
use Rattle.std.specs.Prelude.{bytes_eq, filter}
use Rattle.std.proofs.lemmas.Bool.{true≢false}
use Rattle.claim_tree.specs.Tree.{Text, Tree}
use Rattle.sd_outside.specs.Lists.{In}
use Rattle.sd_outside.proofs.Lists.{bytes_refl, bytes_same, In-map, list_any-from, list_any-In}
use Rattle.digest_sites.specs.Given.{Given}
use Rattle.marked_tree.proofs.Sums.{sum_of}
use Rattle.rebuild_core.specs.Reached.{OwnedSite, all_sites, all_digests, given_digests}
use Rattle.rebuild_core.specs.Soundness.{IsReferencedOnce}
use Rattle.rebuild_core.proofs.Sums.{Apart-from, same_sum}
use Rattle.issuer_core.specs.Decoys.{decoys_of}
use Rattle.issuer_core.specs.Digests.{hidden_of, marked_claims}
use Rattle.issuer_core.specs.Order.{Order}
use Rattle.marked_tree.specs.Paths.{Path}
use Rattle.audit_core.specs.Audited.{Standing, HasDigests, HasDecoys, IsEachAsOften, is_given, decoys_found, standings_from}
use Rattle.audit_core.specs.Found.{AreCounted}
use Rattle.audit_core.proofs.Contents.{has_digests}
use Rattle.audit_core.proofs.Founds.{Others, is_strange, sites_count, stand_of}
use Rattle.audit_core.proofs.Soundness.{differ, each}

abbrev one : Bool → ℕ
one true = 1
one false = 0

abbrev how_many : (Text → Bool) → List Text → ℕ
how_many b xs = sum_of (λ (d : Text). one (b d)) xs

most : (b : Text → Bool) (xs : List Text) → how_many b xs ≤ length xs
most b [] = omega arith
most b (x ∷ xs) = go (b x) (most b xs)
  where
    go : (t : Bool) → how_many b xs ≤ length xs → one t + how_many b xs ≤ suc (length xs)
    go true l = omega (arith, l)
    go false l = omega (arith, l)

all_pass : (b : Text → Bool) (xs : List Text) → how_many b xs ≡ length xs → (d : Text) → In d xs → b d ≡ true
all_pass b [] e d m = elim m [ ]
all_pass b (x ∷ xs) e d m = go (b x) refl m (λ same k. all_pass b xs same d k)
  where
    go : (t : Bool) → b x ≡ t → In d (x ∷ xs) → (how_many b xs ≡ length xs → In d xs → b d ≡ true) → b d ≡ true
    go true h (inl q) rest = ap b q ∙ h
    go true h (inr k) rest = rest (omega (arith, e, ap one h)) k
    go false h n rest = absurd (omega (arith, e, ap one h, most b xs))

own_given : (g : List Given) (x : Given) → In x g → is_given g x.digest ≡ true
own_given g x m = list_any-from (bytes_eq x.digest) (given_digests g) x.digest (In-map (λ (y : Given). y.digest) x g m) (bytes_refl x.digest x.digest refl)

givens_count : (g xs : List Given) → ((x : Given) → In x xs → In x g) → how_many (is_given g) (given_digests xs) ≡ length xs
givens_count g [] within = refl
givens_count g (x ∷ xs) within = omega (arith, ap one (own_given g x (within x (inl refl))), givens_count g xs (λ y m. within y (inr m)))

-- the digests of the disclosures stand among all, each once, and all are as many
all_given : (p : Tree) (g : List Given) → IsReferencedOnce p g → length (all_digests p g) ≡ length g → (d : Text) → In d (all_digests p g) → is_given g d ≡ true
all_given p g ok long d m =
    let f = λ (e : Text). one (is_given g e) in
    let same = same_sum f (given_digests g) (all_digests p g) (Apart-from (all_digests p g) (differ p g ok)) (Apart-from (given_digests g) ok.no_repeated_disclosure) (each p g ok) (λ e there. out e (is_given g e) refl) in
    all_pass (is_given g) (all_digests p g) (same ∙ givens_count g g (λ x k. k) ∙ sym long) d m
  where
    out : (e : Text) (t : Bool) → is_given g e ≡ t → (one (is_given g e) ≡ 0) ⊎ In e (given_digests g)
    out e true h = let w = list_any-In (bytes_eq e) (given_digests g) h in inr (subst (λ z. In z (given_digests g)) (sym (bytes_same e w.0 w.2)) w.1)
    out e false h = inl (ap one h)

none_left : (q : OwnedSite → Bool) (xs : List OwnedSite) → ((x : OwnedSite) → In x xs → q x ≡ false) → filter q xs ≡ []
none_left q [] h = refl
none_left q (x ∷ xs) h = ap (λ (t : Bool). cond t (x ∷ filter q xs) (filter q xs)) (h x (inl refl)) ∙ none_left q xs (λ z m. h z (inr m))

no_paths : (ps : List Path) → length ps ≡ 0 → ps ≡ []
no_paths [] e = refl
no_paths (p ∷ ps) e = absurd (omega (arith, e))

pub no_others : (o : Order) (p : Tree) (g : List Given) → length (decoys_of o) ≡ 0 → length g ≡ hidden_of o → AreCounted o p g
    → HasDigests o p g × HasDecoys o p g
no_others o p g none long counted =
    let many : length (all_digests p g) ≡ length g =
    omega (arith, sites_count p g, counted.count, none) in
    let given = all_given p g counted.shows.sound.referenced many in
    let form : Others o.hash p g = λ d m e. absurd (true≢false (sym (given d m) ∙ e)) in
    let found : decoys_found (marked_claims o) p g ≡ [] =
    ap (map (stand_of (marked_claims o))) (none_left (is_strange g) (all_sites p g) (λ x m. ap not (given x.site.digest (In-map (λ (z : OwnedSite). z.site.digest) x (all_sites p g) m)))) in
    let wanted = ap (λ (ps : List Path). standings_from o.payload ps 0 ps) (no_paths (decoys_of o) none) in (
      has_digests o p g counted.shows long form counted.count,
      subst (λ (xs : List Standing). IsEachAsOften xs (standings_from o.payload (decoys_of o) 0 (decoys_of o))) (sym found)
          (subst (λ (xs : List Standing). IsEachAsOften [] xs) (sym wanted) (λ x. refl)),
    )

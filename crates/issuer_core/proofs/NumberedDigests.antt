-- The digests of numbers that follow each other.
use Rattle.std.proofs.Common.{◌≡◌, ℕ, zero, suc, ◌+◌, ◌<◌, List, [], ◌∷◌, length, ap, ap₂, refl, ◌∙◌, arith}
use Rattle.std.proofs.lemmas.List.FromFn.{length-map-range_with_len}
use Rattle.sd_outside.specs.Lists.{StandsAt}
use Rattle.claim_tree.specs.Tree.{Text}
use Rattle.issuer_core.specs.Digests.{digests_from}

pub digest_stands : (dg : ℕ → Text) (k n i j : ℕ) → i < n → k + i ≡ j → StandsAt (digests_from dg k n) i (dg j)
digest_stands dg k zero i j l e = absurd (omega (arith, l))
digest_stands dg k (suc n) zero j l e = ap dg (omega (arith, e))
digest_stands dg k (suc n) (suc i) j l e = digest_stands dg (k + 1) n i j (omega (arith, l)) (omega (arith, e))

pub numbered_at : (dg : ℕ → Text) (k n i : ℕ) (d : Text) → StandsAt (digests_from dg k n) i d → (i < n) × (d ≡ dg (k + i))
numbered_at dg k zero i d h = elim h [ ]
numbered_at dg k (suc n) zero d h = (omega arith, h ∙ ap dg (omega arith))
numbered_at dg k (suc n) (suc i) d h = let w = numbered_at dg (k + 1) n i d h in (omega (arith, w.0), w.1 ∙ ap dg (omega arith))

pub are_numbered : (ds : List Text) (dg : ℕ → Text) (k n : ℕ) → length ds ≡ n → ((i : ℕ) (d : Text) → StandsAt ds i d → d ≡ dg (k + i)) → ds ≡ digests_from dg k n
are_numbered [] dg k zero e each = refl
are_numbered [] dg k (suc n) e each = absurd (omega (arith, e))
are_numbered (d ∷ ds) dg k zero e each = absurd (omega (arith, e))
are_numbered (d ∷ ds) dg k (suc n) e each =
    ap₂ (λ (x : Text) (xs : List Text). x ∷ xs) (each 0 d refl ∙ ap dg (omega arith))
    (are_numbered ds dg (k + 1) n (omega (arith, e)) (λ i x a. each (suc i) x a ∙ ap dg (omega arith)))

pub numbered_same : (dg dh : ℕ → Text) (k n : ℕ) → ((i : ℕ) → i < n → dg (k + i) ≡ dh (k + i)) → digests_from dg k n ≡ digests_from dh k n
numbered_same dg dh k n same = are_numbered (digests_from dg k n) dh k n (length-map-range_with_len dg k n) (λ i d a. let w = numbered_at dg k n i d a in w.1 ∙ same i w.0)

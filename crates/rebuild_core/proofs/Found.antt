-- What the search for a digest finds.
use Rattle.std.proofs.Common.{◌≡◌, ℕ, suc, ◌+◌, List, [], ◌∷◌, Bool, true, false, Some, sym, ap, ◌∙◌, refl, arith}
use Rattle.std.specs.Prelude.{bytes_eq}
use Rattle.claim_tree.specs.Tree.{Text}
use Rattle.sd_outside.specs.Lists.{StandsAt, In}
use Rattle.digest_sites.specs.Sites.{Site}
use Rattle.digest_sites.specs.Given.{Given}
use Rattle.rebuild_core.specs.Reached.{find_from, stands}
use Rattle.sd_outside.proofs.Lists.{bytes_same, list_any-In, pair_same}

pub stands-In : (d : Text) (ss : List Site) → stands d ss ≡ true → (s : Site) × In s ss × (s.digest ≡ d)
stands-In d ss h = let w = list_any-In (λ s. bytes_eq s.digest d) ss h in (w.0, w.1, bytes_same _ _ w.2)

-- what `find_from` finds
abbrev pub Found : ℕ → List Given → Text → ℕ → Given → Type 0
Found i g d j x = (k : ℕ) × StandsAt g k x × (x.digest ≡ d) × (j ≡ i + k)

pub found : (i : ℕ) (g : List Given) (d : Text) (j : ℕ) (x : Given) → find_from i g d ≡ Some (j, x) → Found i g d j x
found i [] d j x h = cc
found i (y ∷ g) d j x h = go (bytes_eq y.digest d) refl (found (suc i) g d j x)
  where
    go : (b : Bool) → bytes_eq y.digest d ≡ b → (find_from (suc i) g d ≡ Some (j, x) → Found (suc i) g d j x) → Found i (y ∷ g) d j x
    go true e ih =
        let w = pair_same i j y x (rw e at h) in
        (0, sym w.1, ap (λ (z : Given). z.digest) (sym w.1) ∙ bytes_same _ _ e, omega (arith, w.0))
    go false e ih = let w = ih (rw e at h) in (suc w.0, w.1, w.2, omega (arith, w.3))

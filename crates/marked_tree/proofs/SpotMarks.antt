-- Where each number below a count marks one node, it has a way.
use Rattle.std.proofs.Common.{◌≡◌, ℕ, ◌<◌, ◌≤◌, List, [], ◌∷◌, Bool, true, false, eqb, inl, inr, refl, sym, subst, arith, eqb-true}
use Rattle.sd_outside.specs.Lists.{In}
use Rattle.marked_tree.specs.Marked.{Marked}
use Rattle.marked_tree.specs.Ways.{only, ways}
use Rattle.marked_tree.specs.Paths.{Spot, spots}
use Rattle.marked_tree.specs.Laws.{HasEachMarkOnce}
use Rattle.sd_outside.proofs.Lists.{In-map}
use Rattle.marked_tree.proofs.Sums.{sum_of}
use Rattle.marked_tree.proofs.MarkFacts.{within_is}
use Rattle.marked_tree.proofs.Spots.{Way, way, ways_of_spots, spots_weigh}

spot_with : (i : ℕ) (ss : List Spot) → 1 ≤ sum_of (λ s. only i s.mark) ss → (s : Spot) × In s ss × (s.mark ≡ i)
spot_with i [] l = absurd (omega arith)
spot_with i (s ∷ ss) l = go (eqb i s.mark) refl (spot_with i ss)
  where
    is_zero : (i k : ℕ) → eqb i k ≡ false → only i k ≡ 0
    is_zero i k e = rw e refl

    go : (b : Bool) → eqb i s.mark ≡ b → (1 ≤ sum_of (λ s. only i s.mark) ss → (s : Spot) × In s ss × (s.mark ≡ i)) → (z : Spot) × In z (s ∷ ss) × (z.mark ≡ i)
    go true e ih = (s, inl refl, sym (eqb-true i s.mark e))
    go false e ih = let w = ih (omega (arith, l, is_zero i s.mark e)) in (w.0, inr w.1, w.2)

pub way_with : (m : Marked) (n : ℕ) → HasEachMarkOnce m n → (i : ℕ) → i < n → (v : Way) × In v (ways m) × (v.0 ≡ i)
way_with m n once i l =
    let w = spot_with i (spots m) (omega (arith, spots_weigh (only i) m, once i, within_is i n l)) in
    (way w.0, subst (λ (vs : List Way). In (way w.0) vs) (ways_of_spots m) (In-map way w.0 (spots m) w.1), w.2)

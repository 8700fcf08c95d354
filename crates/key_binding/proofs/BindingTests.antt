-- What a comparison of texts tells.
use Rattle.std.proofs.Common.{◌≡◌, ◌≢◌, Bool, true, false, not, bytes_eq, refl, sym, ◌∙◌}
use Rattle.claim_tree.specs.Tree.{Text}
use Rattle.sd_outside.proofs.Lists.{bytes_same, bytes_refl}

pub told_same : (x y : Text) (b : Bool) → b ≡ not (bytes_eq x y) → b ≡ false → x ≡ y
told_same x y b is off = go (bytes_eq x y) refl (sym is ∙ off)
  where
    go : (z : Bool) → bytes_eq x y ≡ z → not z ≡ false → x ≡ y
    go true e h = bytes_same x y e
    go false e h = cc h

pub told_other : (x y : Text) (b : Bool) → b ≡ not (bytes_eq x y) → b ≡ true → x ≢ y
told_other x y b is on same = go (bytes_eq x y) (bytes_refl x y same) (sym is ∙ on)
  where
    go : (z : Bool) → z ≡ true → not z ≡ true → ⊥
    go true e h = cc h
    go false e h = cc e

pub no_truth : (b : Bool) → b ≡ false → b ≡ true → ⊥
no_truth b off on = let clash : false ≡ true = sym off ∙ on in cc clash

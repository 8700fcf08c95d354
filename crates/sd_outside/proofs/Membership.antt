-- Whether a text stands at a position of a list.
use Rattle.std.proofs.Common.{◌≡◌, ◌↔◌, ℕ, zero, suc, List, [], ◌∷◌, slice_get, Some, None, IsTrue, Bool, false, bytes_eq, sym, subst, ◌∙◌}
use Rattle.sd_outside.specs.Lists.{StandsAt}
use Rattle.sd_outside.proofs.Lists.{At-same, got_stands, bytes_same, bytes_refl}

pub at_told : (xs : List (List ℕ)) (i : ℕ) (y x : List ℕ) → slice_get xs i ≡ Some y → (b : Bool) → b ≡ bytes_eq y x → IsTrue b ↔ StandsAt xs i x
at_told xs i y x there b is = (
  λ h. subst (λ z. StandsAt xs i z) (bytes_same y x (sym is ∙ h)) (got_stands xs i y there),
  λ h. is ∙ bytes_refl y x (At-same xs i y x (got_stands xs i y there) h),
)

pub none_told : (xs : List (List ℕ)) (i : ℕ) (x : List ℕ) → slice_get xs i ≡ None → IsTrue false ↔ StandsAt xs i x
none_told xs i x none = (λ h. cc h, λ h. absurd (go xs i none h))
  where
    go : (ys : List (List ℕ)) (j : ℕ) → slice_get ys j ≡ None → StandsAt ys j x → ⊥
    go [] j gone h = h
    go (y ∷ ys) zero gone h = cc gone
    go (y ∷ ys) (suc j) gone h = go ys j gone h

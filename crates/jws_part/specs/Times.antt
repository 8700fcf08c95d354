-- Claims that are moments, in seconds since 1970 (RFC 7519 sections 2, 4.1.4
-- and 4.1.5). Sums have no limit.
use Rattle.std.specs.Prelude.{◌≡◌, ◌≢◌, ◌⊎◌, ℕ, ℤ, pos, ◌+ℤ◌, ◌≤ℤ◌, ◌<ℤ◌, Some, codes}
use Rattle.claim_tree.specs.Tree.{Text, Tree, leaf, whole, get}

-- the claim is there, and is this whole number
abbrev pub IsMoment : Tree → Text → ℤ → Type 0
IsMoment payload name moment = get payload name ≡ Some (leaf (whole moment))

-- the claim is there, and is no whole number
abbrev pub IsNoMoment : Tree → Text → Type 0
IsNoMoment payload name =
    (claim : Tree) × (get payload name ≡ Some claim) × ((moment : ℤ) → claim ≢ leaf (whole moment))

-- a time of the payload is no whole number
abbrev pub IsTimeUnreadable : Tree → Type 0
IsTimeUnreadable payload = IsNoMoment payload (codes "exp") ⊎ IsNoMoment payload (codes "nbf")

-- the payload is expired, where the clocks may differ by the skew
abbrev pub IsExpired : Tree → ℕ → ℕ → Type 0
IsExpired payload skew now =
    (moment : ℤ) × IsMoment payload (codes "exp") moment × ((moment +ℤ pos skew) ≤ℤ pos now)

-- the payload is not yet valid, where the clocks may differ by the skew
abbrev pub IsNotYet : Tree → ℕ → ℕ → Type 0
IsNotYet payload skew now =
    (moment : ℤ) × IsMoment payload (codes "nbf") moment × ((pos now +ℤ pos skew) <ℤ moment)

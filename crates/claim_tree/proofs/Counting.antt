-- Numbers in their order.
use Rattle.std.proofs.Common.{◌≡◌, ℕ, ◌+◌, ◌<◌, ◌≤◌, ◌⊎◌, arith}

-- a number below the next one
pub before_or_at : (i n : ℕ) → i < n + 1 → (i < n) ⊎ (i ≡ n)
before_or_at i n below = grind arith

-- a number that no other is below
pub not_below : (a b : ℕ) → (b < a → ⊥) → a ≤ b
not_below a b h = grind arith

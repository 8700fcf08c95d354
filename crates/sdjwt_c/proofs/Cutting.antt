-- A piece is no longer than what is left of its text.
use Rattle.std.proofs.Common.{◌≡◌, ℕ, ◌+◌, ◌<◌, ◌≤◌, List, length, take, get_or, arith}
use Rattle.std.specs.List.{sum}
use Rattle.std.proofs.lemmas.List.Sums.{sum_by_more_le}
use Rattle.sdjwt_c.specs.Tokens.{AreLengths}

pub piece_fits : (lengths text rest : List ℕ) (k : ℕ) → k < length lengths → sum (take k lengths) + length rest ≡ length text → AreLengths lengths text → get_or lengths k 0 ≤ length rest
piece_fits lengths text rest k within so are =
    let most = sum_by_more_le (λ n. n) lengths k 0 within in
    let whole = are.whole in
    omega (arith, most, whole, so)

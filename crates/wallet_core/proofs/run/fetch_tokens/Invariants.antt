use Rattle.std.proofs.Common.{◌≡◌, ◌≤◌, ℕ, List, map, take, string_bytes}
use Rattle.std.specs.List.{AllZip}
use Rattle.cli_parts.specs.Runs.{IsFetched}
use Rattle.wallet_core.proofs.run.fetch_tokens.Given as goal

abbrev pub invariant-loop-k : goal.invariant-loop-k
invariant-loop-k g l =
    AllZip (IsFetched (g.C.Cabinet.holds l.fn.cab)) (take l.k (map string_bytes l.names)) l.held
    × ((other : List ℕ) → g.C.Cabinet.holds l.cab other ≡ g.C.Cabinet.holds l.fn.cab other)
    × (g.C.Cabinet.faults l.fn.cab ≤ g.C.Cabinet.faults l.cab)

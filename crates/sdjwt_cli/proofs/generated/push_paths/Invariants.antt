use Rattle.std.proofs.Common.{◌≡◌, ◌++◌}
use Rattle.sdjwt_cli.specs.Generated.{paths_below}
use Rattle.sdjwt_cli.proofs.generated.push_paths.Given as goal

abbrev pub invariant-loop-i : goal.invariant-loop-i
invariant-loop-i l = l.paths ≡ l.fn.paths ++ paths_below l.fn.every l.fn.inside l.i

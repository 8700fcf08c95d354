use Rattle.std.proofs.Common.{◌≡◌, ◌∷◌, ◌++◌}
use Rattle.sdjwt_cli.proofs.generated.path_inside.Given as goal

abbrev pub invariant-loop-step : goal.invariant-loop-step
invariant-loop-step l = l.path ++ l.step-iterator ≡ l.fn.name ∷ l.fn.inside

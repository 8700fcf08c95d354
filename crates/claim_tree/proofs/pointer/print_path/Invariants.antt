use Rattle.std.proofs.Common.{◌≡◌, ◌++◌, string_bytes}
use Rattle.claim_tree.specs.Path.{pointer_text}
use Rattle.claim_tree.proofs.pointer.print_path.Given as goal

abbrev pub invariant-loop-step : goal.invariant-loop-step
invariant-loop-step l = string_bytes l.text ++ pointer_text l.step-iterator ≡ pointer_text l.path

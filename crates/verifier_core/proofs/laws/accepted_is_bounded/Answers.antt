use Rattle.std.proofs.Common.{refl}
use Rattle.marked_tree.specs.Marked.{strip}
use Rattle.verifier_core.specs.Asking.{caller_demands}
use Rattle.verifier_core.specs.Verdict.{demands_of}
use Rattle.verifier_core.proofs.Bounds.{accepted_bounded, asked_bounded}
use Rattle.verifier_core.proofs.laws.accepted_is_bounded.Goals as goal

pub returns : goal.returns
returns c = record {
  demanded = λ text demands now marked accepted. accepted_bounded text demands now marked (strip marked) accepted refl;
  by_policy = λ text policy now payload is. accepted_bounded text (demands_of policy) now is.0 payload is.1 is.2;
  by_caller = λ text policy algs now answers payload is. accepted_bounded text (caller_demands policy algs answers) now is.0 payload is.1 is.2;
  asked = asked_bounded;
}

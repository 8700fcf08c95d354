use Rattle.std.proofs.Common.{rules}
use Rattle.refusals.specs.Lowest.{IsLowest}
use Rattle.verifier_core.specs.Verdict.{Fails}
use Rattle.sdjwt_lib.proofs.end_to_end.verified.Goals as goal

pub unreachable-requires : goal.unreachable-requires
unreachable-requires c =
    let lowest : IsLowest (Fails c.args.presentation.now c.args.policy.now c.args.now) c.in-Err-Fault.field-0-0 = search rules in
    c.requires.passes c.in-Err-Fault.field-0-0 lowest

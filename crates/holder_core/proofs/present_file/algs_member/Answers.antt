use Rattle.std.proofs.lemmas.Result.{err_from_is_err_and}
use Rattle.holder_core.proofs.UnsignedPresents.{refused_too}
use Rattle.holder_core.proofs.present_file.algs_member.Goals as goal

pub returns-in_err-algs-clause-refused : goal.returns-in_err-algs-clause-refused
returns-in_err-algs-clause-refused c =
    let handed = err_from_is_err_and c.from_residual.result c.from_residual.ensures.1 in
    rw (handed.1, handed.2) (refused_too c.args.members.now c.in_err-algs.field-0.0 c.in_err-algs.ensures.refused)

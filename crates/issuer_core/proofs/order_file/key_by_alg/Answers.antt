use Rattle.std.proofs.Common.{length}
use Rattle.std.proofs.lemmas.Result.{err_from_is_err_and}
use Rattle.file_members.specs.declared.field.Field.{Field}
use Rattle.issuer_core.specs.OrderFile.{IsAlgText, IsAlgFor}
use Rattle.issuer_core.proofs.OrderFiles.{refused_as, unsized, too_short}
use Rattle.issuer_core.proofs.order_file.key_by_alg.Goals as goal

pub returns-in_err-alg-clause-refused : goal.returns-in_err-alg-clause-refused
returns-in_err-alg-clause-refused c =
    let handed = err_from_is_err_and c.from_residual.result c.from_residual.ensures.1 in
    let size = length c.args.bytes.now in
    rw (handed.1, handed.2) (refused_as IsAlgText (IsAlgFor size) Field.Alg c.args.members.now c.in_err-alg.field-0.0 (unsized size) c.in_err-alg.ensures.refused)

pub returns-in-Err-clause-refused : goal.returns-in-Err-clause-refused
returns-in-Err-clause-refused c = too_short (length c.args.bytes.now) c.args.members.now c.in_ok-alg.alg c.requires c.in-Err.ensures.short c.in_ok-alg.ensures.ok

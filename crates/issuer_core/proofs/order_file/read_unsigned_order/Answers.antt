use Rattle.std.proofs.Common.{[], take, drop}
use Rattle.std.proofs.lemmas.Result.{err_from_is_err_and, IfErr-weaker}
use Rattle.claim_tree.specs.TreeValues.{IsText}
use Rattle.file_members.specs.FileForms.{optional}
use Rattle.file_members.specs.declared.field.Field.TheVariants.{Kid, Typ, SdAlg}
use Rattle.file_members.proofs.FileMembers.{may_say_meets}
use Rattle.issuer_core.specs.OrderFile.{IsHashText}
use Rattle.issuer_core.specs.UnsignedOrder.{unsigned_order_table}
use Rattle.issuer_core.proofs.OrderFaults.{head_refused, behind_head}
use Rattle.issuer_core.proofs.order_file.read_unsigned_order.Goals as goal

pub returns-in_err-head-clause-refused : goal.returns-in_err-head-clause-refused
returns-in_err-head-clause-refused c =
    let handed = err_from_is_err_and c.from_residual.result c.from_residual.ensures.1 in
    rw (handed.1, handed.2) (head_refused (drop 3 unsigned_order_table) c.args.bytes.now c.in_err-head.field-0.0 c.in_err-head.ensures.refused)

pub returns-in_err-kid-clause-refused : goal.returns-in_err-kid-clause-refused
returns-in_err-kid-clause-refused c =
    let handed = err_from_is_err_and c.from_residual-in_err-kid.result c.from_residual-in_err-kid.ensures.1 in
    rw (handed.1, handed.2) (behind_head [] (optional Kid IsText) (drop 4 unsigned_order_table) c.args.bytes.now c.in_err-kid.field-0.0 c.in_ok-head.head c.in_ok-head.ensures.file c.in_ok-head.ensures.says tt c.in_err-kid.ensures.refused)

pub returns-in_err-typ-clause-refused : goal.returns-in_err-typ-clause-refused
returns-in_err-typ-clause-refused c =
    let handed = err_from_is_err_and c.from_residual-in_err-typ.result c.from_residual-in_err-typ.ensures.1 in
    let kid = may_say_meets IsText Kid c.in_ok-head.head.members c.in_ok-kid.kid c.in_ok-kid.ensures.ok in
    rw (handed.1, handed.2) (behind_head (take 1 (drop 3 unsigned_order_table)) (optional Typ IsText) (drop 5 unsigned_order_table) c.args.bytes.now c.in_err-typ.field-0.0 c.in_ok-head.head c.in_ok-head.ensures.file c.in_ok-head.ensures.says (kid, tt) c.in_err-typ.ensures.refused)

pub returns-clause-refused : goal.returns-clause-refused
returns-clause-refused c =
    let kid = may_say_meets IsText Kid c.in_ok-head.head.members c.in_ok-kid.kid c.in_ok-kid.ensures.ok in
    let typ = may_say_meets IsText Typ c.in_ok-head.head.members c.in_ok-typ.typ c.in_ok-typ.ensures.ok in
    IfErr-weaker c.into_order.result _ _ (λ fault. behind_head (take 2 (drop 3 unsigned_order_table)) (optional SdAlg IsHashText) [] c.args.bytes.now fault c.in_ok-head.head c.in_ok-head.ensures.file c.in_ok-head.ensures.says (kid, (typ, tt))) c.into_order.ensures.refused

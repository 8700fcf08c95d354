use Rattle.std.proofs.Common.{ℕ, List, drop, sym, subst}
use Rattle.std.proofs.lemmas.Result.{err_from_is_err_and}
use Rattle.claim_tree.specs.TreeValues.{Says}
use Rattle.file_members.specs.FileForms.{found}
use Rattle.file_members.specs.declared.field.Field.TheVariants.{Key}
use Rattle.hmac_sign.specs.KeyText.{IsKeyBytes}
use Rattle.issuer_core.specs.OrderFile.{order_table}
use Rattle.issuer_core.proofs.OrderFiles.{enough_bytes}
use Rattle.issuer_core.proofs.OrderFaults.{head_refused, at_key, at_kid, at_typ, at_alg, at_hash}
use Rattle.issuer_core.proofs.order_file.read_order.Goals as goal

pub returns-in_err-head-clause-refused : goal.returns-in_err-head-clause-refused
returns-in_err-head-clause-refused c =
    let handed = err_from_is_err_and c.from_residual.result c.from_residual.ensures.1 in
    rw (handed.1, handed.2) (head_refused (drop 3 (order_table c.args.bytes.now)) c.args.bytes.now c.in_err-head.field-0.0 c.in_err-head.ensures.refused)

pub returns-in_err-key_bytes-clause-refused : goal.returns-in_err-key_bytes-clause-refused
returns-in_err-key_bytes-clause-refused c =
    let handed = err_from_is_err_and c.from_residual-in_err-key_bytes.result c.from_residual-in_err-key_bytes.ensures.1 in
    rw (handed.1, handed.2) (at_key c.args.bytes.now c.in_err-key_bytes.field-0.0 c.in_ok-head.head c.in_ok-head.ensures.says c.in_ok-head.ensures.file c.in_err-key_bytes.ensures.refused)

pub returns-in_err-kid-clause-refused : goal.returns-in_err-kid-clause-refused
returns-in_err-kid-clause-refused c =
    let handed = err_from_is_err_and c.from_residual-in_err-kid.result c.from_residual-in_err-kid.ensures.1 in
    rw (handed.1, handed.2) (at_kid c.args.bytes.now c.in_err-kid.field-0.0 c.in_ok-head.head c.in_ok-head.ensures.says c.in_ok-head.ensures.file c.in_ok-key_bytes.key_bytes c.in_ok-key_bytes.ensures.ok c.in_err-kid.ensures.refused)

pub returns-in_err-typ-clause-refused : goal.returns-in_err-typ-clause-refused
returns-in_err-typ-clause-refused c =
    let handed = err_from_is_err_and c.from_residual-in_err-typ.result c.from_residual-in_err-typ.ensures.1 in
    rw (handed.1, handed.2) (at_typ c.args.bytes.now c.in_err-typ.field-0.0 c.in_ok-head.head c.in_ok-head.ensures.says c.in_ok-head.ensures.file c.in_ok-key_bytes.key_bytes c.in_ok-key_bytes.ensures.ok c.in_ok-kid.kid c.in_ok-kid.ensures.ok c.in_err-typ.ensures.refused)

pub key_by_alg-requires : goal.key_by_alg-requires
key_by_alg-requires c =
    let members = c.in_ok-head.head.members in
    let says = subst (λ (b : List ℕ). Says IsKeyBytes (found members Key) b) (sym c.bytes.ensures) c.in_ok-key_bytes.ensures.ok in
    enough_bytes (found members Key) c.bytes.result.now says

pub returns-in_err-key-clause-refused : goal.returns-in_err-key-clause-refused
returns-in_err-key-clause-refused c =
    let handed = err_from_is_err_and c.from_residual-in_err-key.result c.from_residual-in_err-key.ensures.1 in
    rw (handed.1, handed.2) (at_alg c.args.bytes.now c.in_err-key.field-0.0 c.in_ok-head.head c.in_ok-head.ensures.says c.in_ok-head.ensures.file c.in_ok-key_bytes.key_bytes c.in_ok-key_bytes.ensures.ok c.in_ok-kid.kid c.in_ok-kid.ensures.ok c.in_ok-typ.typ c.in_ok-typ.ensures.ok c.bytes.result.now c.bytes.ensures c.in_err-key.ensures.refused)

pub returns-in_err-order-clause-refused : goal.returns-in_err-order-clause-refused
returns-in_err-order-clause-refused c =
    let handed = err_from_is_err_and c.from_residual-in_err-order.result c.from_residual-in_err-order.ensures.1 in
    rw (handed.1, handed.2) (at_hash c.args.bytes.now c.in_err-order.field-0.0 c.in_ok-head.head c.in_ok-head.ensures.says c.in_ok-head.ensures.file c.in_ok-key_bytes.key_bytes c.in_ok-key_bytes.ensures.ok c.in_ok-kid.kid c.in_ok-kid.ensures.ok c.in_ok-typ.typ c.in_ok-typ.ensures.ok c.bytes.result.now c.bytes.ensures c.in_ok-key.key.alg c.in_ok-key.ensures.alg c.in_err-order.ensures.refused)

pub into_order-requires-clause-head : goal.into_order-requires-clause-head
into_order-requires-clause-head c = c.in_ok-head.ensures.says

use Rattle.std.proofs.Common.{◌≢◌, Err, ap, sym, rules}
use Rattle.claim_tree.specs.View.{tree_of}
use Rattle.hmac_sign.specs.declared.key_set.KeySetError.TheVariants.{Memory}
use Rattle.sdjwt_cli.proofs.GeneratedKeys.{keys_are, no_fault}
use Rattle.sdjwt_cli.proofs.generated.key_set.Goals as goal

pub returns-in-Ok : goal.returns-in-Ok
returns-in-Ok c = keys_are (tree_of c.in_ok-tree.tree) (sym c.in_ok-tree.ensures) c.in-Ok.keys c.in-Ok.ensures.ok

pub unreachable-requires : goal.unreachable-requires
unreachable-requires c =
    let error = c.in-Err.field-0 in
    let cause : error ≢ Memory = search rules in
    no_fault (tree_of c.in_ok-tree.tree) (sym c.in_ok-tree.ensures) error (λ e. c.in-Err.ensures.not_a_set (ap Err e)) (λ place e. c.in-Err.ensures.not_base64 place (ap Err e)) (λ place e. c.in-Err.ensures.short place (ap Err e)) cause

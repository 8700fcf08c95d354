use Rattle.std.proofs.Common.{◌≡◌, ◌≤◌, IfSome, length, subst}
use Rattle.claim_tree.specs.View.{tree_of}
use Rattle.hmac_sign.specs.Keys.{IsNamedKey, IsOct}
use Rattle.hmac_sign.specs.KeyRefusals.{added_key}
use Rattle.hmac_sign.proofs.key_set_elements.add_key.Goals as goal

pub returns-in_ok-push-in-Ok-Some-clause-ok : goal.returns-in_ok-push-in-Ok-Some-clause-ok
returns-in_ok-push-in-Ok-Some-clause-ok c =
    let bytes = c.in-Ok-Some.bytes in
    let seen : c.bytes-in-Ok-Some.result.now ≡ bytes = c.bytes-in-Ok-Some.ensures in
    let made = c.in_ok-named_key-in-Ok-Some in
    let oct : IsOct (tree_of c.args.tree.now) bytes = subst (λ o. IfSome o (IsOct (tree_of c.args.tree.now))) c.in-Ok-Some.field-0-is c.in-Ok-Some.ensures.oct in
    added_key made.field-0 bytes oct (subst (λ bs. 32 ≤ length bs) seen made.ensures.enough) (subst (λ bs. IsNamedKey (tree_of c.args.tree.now) bs made.field-0) seen made.ensures.named) c.in_ok-push-in-Ok-Some.ensures.items

use Rattle.std.proofs.Common.{◌≡◌, Err, ap, subst}
use Rattle.claim_tree.specs.View.{tree_of}
use Rattle.claim_tree.specs.ListViews.{elements_of}
use Rattle.hmac_sign.specs.KeyRefusals.{IsKeyNotBase64, IsFirstKey}
use Rattle.hmac_sign.proofs.KeySets.{none_more, first_at, decoded}
use Rattle.hmac_sign.proofs.key_set_elements.all_decode.Goals as goal

pub returns-in-Err-NotBase64-clause-no_code : goal.returns-in-Err-NotBase64-clause-no_code
returns-in-Err-NotBase64-clause-no_code c place e =
    let at : c.loop-place.place ≡ place = cc e in
    let none : IsKeyNotBase64 (tree_of c.index-trees-place.result) = c.in-Err-NotBase64.ensures.not_base64 (ap Err c.in-Err-NotBase64.field-0-is) in
    subst (λ i. IsFirstKey IsKeyNotBase64 (elements_of c.args.trees.now) i) at (first_at IsKeyNotBase64 c.args.trees.now c.loop-place.place c.index-trees-place.result c.loop-place-test.true c.index-trees-place.is c.loop-place.invariant none)

pub loop-place-preserved : goal.loop-place-preserved
loop-place-preserved c = none_more IsKeyNotBase64 c.args.trees.now c.loop-place.place c.index-trees-place.result c.loop-place-test.true c.index-trees-place.is c.loop-place.invariant (decoded (tree_of c.index-trees-place.result) c.in-Ok.field-0 c.in-Ok.ensures.other c.in-Ok.ensures.oct)

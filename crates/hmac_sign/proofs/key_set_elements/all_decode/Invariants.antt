use Rattle.claim_tree.specs.ListViews.{elements_of}
use Rattle.hmac_sign.specs.KeyRefusals.{NoneBefore, IsKeyNotBase64}
use Rattle.hmac_sign.proofs.key_set_elements.all_decode.Given as goal

abbrev pub invariant-loop-place : goal.invariant-loop-place
invariant-loop-place l = NoneBefore IsKeyNotBase64 (elements_of l.trees) l.place

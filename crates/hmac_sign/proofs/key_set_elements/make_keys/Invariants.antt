use Rattle.std.proofs.Common.{take}
use Rattle.claim_tree.specs.ListViews.{elements_of}
use Rattle.hmac_sign.specs.Keys.{KeysOf}
use Rattle.hmac_sign.specs.KeyRefusals.{NoneBefore, IsKeyShort}
use Rattle.hmac_sign.proofs.key_set_elements.make_keys.Given as goal

abbrev pub invariant-loop-place : goal.invariant-loop-place
invariant-loop-place l = KeysOf (elements_of (take l.place l.trees)) l.keys.items × NoneBefore IsKeyShort (elements_of l.trees) l.place

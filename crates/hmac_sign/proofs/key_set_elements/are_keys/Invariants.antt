use Rattle.std.proofs.Common.{◌≡◌, drop}
use Rattle.claim_tree.specs.ListViews.{elements_of}
use Rattle.hmac_sign.specs.Keys.{are_keys}
use Rattle.hmac_sign.proofs.key_set_elements.are_keys.Given as goal

abbrev pub invariant-loop-tree : goal.invariant-loop-tree
invariant-loop-tree l = are_keys (elements_of (drop l.tree-index l.trees)) ≡ are_keys (elements_of l.trees)

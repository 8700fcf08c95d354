-- The texts that a file gives for a key binding token: an audience, a nonce.
use Rattle.std.specs.Prelude.{◌≤◌, length}
use Rattle.claim_tree.specs.Tree.{Text, Tree}
use Rattle.claim_tree.specs.TreeValues.{IsText}
use Rattle.sd_outside.specs.Limits.{binding_text_max}

-- the tree is this text, of no more bytes than it may have
pub record IsShortText (t : Tree) (s : Text) : Type 0 where
  pub is : IsText t s
  pub short : length s ≤ binding_text_max

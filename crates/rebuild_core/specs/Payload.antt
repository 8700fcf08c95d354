-- The payload without its own member `_sd_alg`, RFC 9901 section 4.1.1.
use Rattle.std.specs.Prelude.{codes}
use Rattle.claim_tree.specs.Tree.{Text, Tree, object}
use Rattle.claim_tree.specs.Removed.{removed}

unfoldable pub alg_name : Text
alg_name = codes "_sd_alg"

abbrev pub without_alg : Tree → Tree
without_alg (object ms) = object (removed ms alg_name)
without_alg t = t

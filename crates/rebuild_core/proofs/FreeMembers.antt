-- Elements and members without reserved names.
use Rattle.claim_tree.specs.Tree.{Elements, Members}
use Rattle.claim_tree.proofs.Everywheres.{EachElementIn, EachMemberIn}
use Rattle.rebuild_core.specs.Free.{IsFree}

abbrev pub ElementsNoReserved : Elements → Type 0
ElementsNoReserved es = EachElementIn (λ name _. IsFree name) es

abbrev pub MembersNoReserved : Members → Type 0
MembersNoReserved ms = EachMemberIn (λ name _. IsFree name) ms

use Rattle.std.proofs.Common.{ap}
use Rattle.claim_tree.specs.Tree.{object}
use Rattle.claim_tree.specs.View.{tree_of}
use Rattle.claim_tree.specs.Removed.{removed}
use Rattle.rebuild_core.specs.Payload.{alg_name, without_alg}
use Rattle.rebuild_core.proofs.Opened.{payload_opens, answered}
use Rattle.rebuild_core.proofs.opening.open_top.Goals as goal

pub open_parts-requires : goal.open_parts-requires
open_parts-requires c = record {
  ready = (
    c.args.given.now,
    payload_opens (without_alg (tree_of c.args.payload)) _ c.requires.referenced c.requires.named (object (removed c.in-Object.map alg_name)) (ap (λ t. without_alg (tree_of t)) c.in-Object.is) _ _ c.requires.few c.requires.told,
  );
}

pub returns : goal.returns
returns c =
    let is = ap (λ t. without_alg (tree_of t)) c.in-Object.is in
    let opens = payload_opens (without_alg (tree_of c.args.payload)) _ c.requires.referenced c.requires.named (object (removed c.in-Object.map alg_name)) is _ _ c.requires.few c.requires.told in
    answered (without_alg (tree_of c.args.payload)) _ c.requires.referenced c.requires.named (object (removed c.in-Object.map alg_name)) is c.open_parts.result _ (c.open_parts.ensures.opened c.args.given.now opens)

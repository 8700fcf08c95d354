-- An object without a member has no more nodes.
use Rattle.std.proofs.Common.{◌≤◌, ◌+◌, arith}
use Rattle.std.specs.Prelude.{bytes_eq}
use Rattle.claim_tree.specs.Tree.{Text, Members, no_members, member}
use Rattle.claim_tree.specs.Nodes.{nodes, members_nodes}
use Rattle.claim_tree.specs.Removed.{removed}
use Rattle.claim_tree.proofs.MapPlaces.{of_either}

pub removed_nodes : (ms : Members) (name : Text) → members_nodes (removed ms name) ≤ members_nodes ms
removed_nodes no_members name = omega arith
removed_nodes (member other t ms) name =
    let ih = removed_nodes ms name in
    of_either (λ ns. members_nodes ns ≤ nodes t + members_nodes ms) (bytes_eq other name) _ _ (omega (arith, ih)) (omega (arith, ih))

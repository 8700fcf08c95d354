use Rattle.std.proofs.Common.{◌≡◌, ◌++◌}
use Rattle.claim_tree.specs.ListViews.{members_of}
use Rattle.claim_tree.specs.JsonText.{members_data}
use Rattle.claim_tree.proofs.build.sorted_map.Given as goal

abbrev pub invariant-loop-name : goal.invariant-loop-name
invariant-loop-name l =
    (members_data l.map ≡ members_data (members_of l.yielded)) × (l.yielded ++ l.name-iterator ≡ l.fn.members.entries)

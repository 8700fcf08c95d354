use Rattle.std.proofs.Common.{codes}
use Rattle.claim_tree.specs.Tree.{member_named}
use Rattle.verifier_core.proofs.PolicyVersions.{not_alone}
use Rattle.verifier_core.proofs.policy_version.one_audience.Goals as goal

pub returns-in-None-clause-none : goal.returns-in-None-clause-none
returns-in-None-clause-none c =
    let none = rw c.in-None.is at c.in_ok-text.ensures.none in
    not_alone (member_named c.args.members.now (codes "aud")) none

use Rattle.std.specs.Prelude.{IfErr}
use Rattle.std.proofs.Common.{subst}
use Rattle.claim_tree.specs.View.{tree_of}
use Rattle.rebuild_core.specs.Answer.{IsProcessRefused}
use Rattle.rebuild_core.specs.Payload.{without_alg}
use Rattle.rebuild_core.proofs.processing.process.Goals as goal

pub returns-clause-refused : goal.returns-clause-refused
returns-clause-refused c =
    subst (λ g. IfErr c.process_seeded.result (IsProcessRefused (without_alg (tree_of c.args.payload.now)) g)) c.in_ok-given.ensures
    (subst (λ t. IfErr c.process_seeded.result (IsProcessRefused (without_alg t) c.in_ok-given.given)) c.in_ok-payload.ensures.ok c.process_seeded.ensures.refused)

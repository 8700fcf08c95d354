use Rattle.std.proofs.Common.{Some, ap, ◌∙◌}
use Rattle.claim_tree.specs.View.{tree_of}
use Rattle.claim_tree.proofs.KeptReading.{reads_by}
use Rattle.claim_tree.proofs.text.read_judged.Goals as goal

pub returns-in-Ok-clause-ok : goal.returns-in-Ok-clause-ok
returns-in-Ok-clause-ok c =
    reads_by c.args.pass c.args.text.now (tree_of c.in-Ok.tree) (c.in-Ok-false.ensures.ok ∙ ap Some c.in-Ok-false.field-0-test) c.in-Ok.ensures.ok

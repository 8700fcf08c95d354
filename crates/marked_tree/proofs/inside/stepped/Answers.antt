use Rattle.marked_tree.specs.View.{marked_of}
use Rattle.marked_tree.proofs.StepFacts.{found_strip, found_way}
use Rattle.marked_tree.proofs.inside.stepped.Goals as goal

pub returns-clause-tree : goal.returns-clause-tree
returns-clause-tree c = found_strip (marked_of c.args.tree.now) c.args.step.now c.found.result c.found.ensures.value

pub returns-clause-way : goal.returns-clause-way
returns-clause-way c = found_way (marked_of c.args.tree.now) c.args.step.now c.found.result c.invariant.ensures c.found.ensures.short c.found.ensures.value

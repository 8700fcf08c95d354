use Rattle.claim_tree.specs.View.{tree_of}
use Rattle.rebuild_core.proofs.NothingHidden.{answer_sound, answer_processed, answer_refused, answer_counted}
use Rattle.rebuild_core.proofs.processing.open_nothing.Goals as goal

pub returns-clause-sound : goal.returns-clause-sound
returns-clause-sound c = rw c.requires.none (answer_sound (tree_of c.args.payload) c.requires.unhidden c.move_out.result c.move_out.ensures)

pub returns-clause-processed : goal.returns-clause-processed
returns-clause-processed c = rw c.requires.none (answer_processed (tree_of c.args.payload) c.requires.unhidden c.move_out.result c.move_out.ensures)

pub returns-clause-refused : goal.returns-clause-refused
returns-clause-refused c = rw c.requires.none (answer_refused (tree_of c.args.payload) c.requires.unhidden c.move_out.result c.move_out.ensures)

pub returns-clause-counted : goal.returns-clause-counted
returns-clause-counted c =
    rw c.requires.none (answer_counted (tree_of c.args.payload) c.requires.unhidden c.move_out.result c.move_out.ensures c.args.steps.now c.steps_fit.ensures)

use Rattle.std.proofs.Common.{refl}
use Rattle.claim_tree.specs.View.{tree_of}
use Rattle.json_form.specs.JsonPlaces.{other}
use Rattle.json_form.proofs.Members.{found_here}
use Rattle.json_form.proofs.signature_entry.take_word.Goals as goal

pub returns-in-None-clause-refused : goal.returns-in-None-clause-refused
returns-in-None-clause-refused c =
    let t = tree_of c.in-Some.tree in
    other t refl (found_here c.args.members.now c.args.part c.word.result.now t c.word.ensures c.in-Some.ensures.tree) c.in-None.ensures.none

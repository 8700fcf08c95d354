-- The text at the one path of the pointer, and none at what is no pointer.
use Rattle.claim_tree.specs.Tree.{object}
use Rattle.sdjwt_c.proofs.PartHanding.{text_of_path, no_text_of_path}
use Rattle.sdjwt_c.proofs.parts.text_at.Goals as goal

pub returns-in-Ok-clause-part : goal.returns-in-Ok-clause-part
returns-in-Ok-clause-part c =
    let members = c.in_ok-question_of.field-0 in
    record {
      members = members;
      reads = c.in_ok-question_of.ensures.members;
      is_text = text_of_path (object members) c.args.pointer.now c.in-Ok.path c.in_ok-copied_at-in-Ok.field-0 c.in-Ok.ensures.ok c.in_ok-copied_at-in-Ok.ensures;
    }

pub returns-clause-part : goal.returns-clause-part
returns-clause-part c =
    let members = c.in_ok-question_of.field-0 in
    record {
      members = members;
      reads = c.in_ok-question_of.ensures.members;
      is_text = no_text_of_path (object members) c.args.pointer.now (c.read_pointer.ensures.syntax (cc (c.in-Err-Syntax.is, c.in-Err-Syntax.field-0-is)));
    }

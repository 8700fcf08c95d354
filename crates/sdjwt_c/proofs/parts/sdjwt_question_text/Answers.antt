-- What the question says under the name is handed over.
use Rattle.std.specs.Prelude.{codes}
use Rattle.sdjwt_c.specs.QuestionParts.{SaysUnder}
use Rattle.sdjwt_c.proofs.PartHanding.{handed_part}
use Rattle.sdjwt_c.proofs.parts.sdjwt_question_text.Goals as goal

pub returns : goal.returns
returns c = handed_part ⊥ (λ m. m) (SaysUnder c.args.question.now (codes "text")) c.args.question.now c.args.room.now c.hand_part.new.room c.hand_part.new.len c.hand_part.result
    c.text_of.result c.text_of.ensures.part c.text_of.ensures.unreadable c.text_of.ensures.fit c.text_of.ensures.read c.hand_part.ensures

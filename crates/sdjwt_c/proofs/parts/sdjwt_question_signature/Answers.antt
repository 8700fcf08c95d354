-- The signature that the question says is handed over.
use Rattle.sdjwt_c.specs.QuestionParts.{SaysSignature}
use Rattle.sdjwt_c.proofs.PartHanding.{handed_part}
use Rattle.sdjwt_c.proofs.parts.sdjwt_question_signature.Goals as goal

pub returns : goal.returns
returns c = handed_part ⊥ (λ m. m) (SaysSignature c.args.question.now) c.args.question.now c.args.room.now c.hand_part.new.room c.hand_part.new.len c.hand_part.result
    c.signature_of.result c.signature_of.ensures.part c.signature_of.ensures.unreadable c.signature_of.ensures.fit c.signature_of.ensures.read c.hand_part.ensures

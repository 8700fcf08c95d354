-- What the question says at a pointer in UTF-8 is handed over.
use Rattle.std.proofs.Common.{List, ℕ, subst}
use Rattle.std.specs.Prelude.{IsUtf8}
use Rattle.sdjwt_c.specs.QuestionParts.{SaysAt, HandsPartBy}
use Rattle.sdjwt_c.proofs.PartHanding.{handed_part}
use Rattle.sdjwt_c.proofs.parts.sdjwt_question_at.Goals as goal

pub returns-in-Ok : goal.returns-in-Ok
returns-in-Ok c =
    let Misused : Type 0 = IsUtf8 c.args.pointer.now → ⊥ in
    let question = c.args.question.now in
    let Named : List ℕ → Type 0 = λ pointer. HandsPartBy Misused (SaysAt question pointer) question c.args.room.now c.hand_part.new.room c.hand_part.new.len c.hand_part.result in
    subst Named c.in-Ok.ensures.cases.0
    (handed_part Misused (λ misused. misused c.in-Ok.ensures.cases.1) (SaysAt question c.in-Ok.pointer.now) question c.args.room.now c.hand_part.new.room c.hand_part.new.len c.hand_part.result
    c.text_at.result c.text_at.ensures.part c.text_at.ensures.unreadable c.text_at.ensures.fit c.text_at.ensures.read c.hand_part.ensures)

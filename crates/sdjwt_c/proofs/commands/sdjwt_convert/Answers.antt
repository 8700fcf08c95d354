-- In a form that has a number the answer is handed over.
use Rattle.std.proofs.Common.{◌≡◌, Option, None, Some, subst}
use Rattle.std.specs.Prelude.{IsSomeAnd}
use Rattle.sdjwt_cli.specs.Answers.{ConvertAnswers}
use Rattle.sdjwt_cli.specs.declared.form.Form.{Form}
use Rattle.sdjwt_c.specs.Handed.{HandsBy}
use Rattle.sdjwt_c.proofs.Handing.{handed}
use Rattle.sdjwt_c.proofs.commands.sdjwt_convert.Goals as goal

pub returns-in-Some : goal.returns-in-Some
returns-in-Some c =
    let InForm : Option Form → Type 0 = λ form. HandsBy (form ≡ None) (λ reply. IsSomeAnd form (λ form. ConvertAnswers form c.args.token.now reply)) c.args.room.now c.hand.new.room c.hand.new.len c.number.result in
    subst InForm c.in-Some.ensures
    (handed (Some c.in-Some.form ≡ None) (λ none. absurd (cc none)) (λ reply. ConvertAnswers c.in-Some.form c.args.token.now reply) c.args.room.now c.hand.new.room c.hand.new.len c.number.result c.hand.result c.number.ensures
    c.convert.result c.convert.ensures.converts c.convert.ensures.refuses c.convert.ensures.readable c.convert.ensures.read c.hand.ensures)

-- What the command answers is handed over.
use Rattle.sdjwt_cli.specs.Answers.{PresentAnswers}
use Rattle.sdjwt_c.proofs.Handing.{handed}
use Rattle.sdjwt_c.proofs.commands.sdjwt_present.Goals as goal

pub returns : goal.returns
returns c = handed ⊥ (λ m. m) (λ reply. PresentAnswers c.args.order.now c.args.token.now c.args.now reply) c.args.room.now c.hand.new.room c.hand.new.len c.number.result c.hand.result c.number.ensures
    c.present.result c.present.ensures.presents c.present.ensures.refuses c.present.ensures.unreadable c.present.ensures.read c.hand.ensures

-- What the command answers is handed over.
use Rattle.sdjwt_cli.specs.Answers.{ShowAnswers}
use Rattle.sdjwt_c.proofs.Handing.{handed}
use Rattle.sdjwt_c.proofs.commands.sdjwt_show.Goals as goal

pub returns : goal.returns
returns c = handed ⊥ (λ m. m) (λ reply. ShowAnswers c.args.token.now reply) c.args.room.now c.hand.new.room c.hand.new.len c.number.result c.hand.result c.number.ensures
    c.show.result c.show.ensures.shows c.show.ensures.refuses c.show.ensures.readable c.show.ensures.read c.hand.ensures

-- What the command answers is handed over.
use Rattle.sdjwt_cli.specs.Answers.{SplitAnswers}
use Rattle.sdjwt_c.proofs.Handing.{handed}
use Rattle.sdjwt_c.proofs.commands.sdjwt_split.Goals as goal

pub returns : goal.returns
returns c = handed ⊥ (λ m. m) (λ reply. SplitAnswers c.args.token.now reply) c.args.room.now c.hand.new.room c.hand.new.len c.number.result c.hand.result c.number.ensures
    c.split.result c.split.ensures.gives c.split.ensures.refuses c.split.ensures.readable c.split.ensures.read c.hand.ensures

-- What the command answers is handed over.
use Rattle.sdjwt_cli.specs.Answers.{VerifyAnswers}
use Rattle.sdjwt_c.proofs.Handing.{handed}
use Rattle.sdjwt_c.proofs.commands.sdjwt_verify.Goals as goal

pub returns : goal.returns
returns c = handed ⊥ (λ m. m) (λ reply. VerifyAnswers c.args.policy.now c.args.token.now c.args.now reply) c.args.room.now c.hand.new.room c.hand.new.len c.number.result c.hand.result c.number.ensures
    c.verify.result c.verify.ensures.verifies c.verify.ensures.refuses c.verify.ensures.unreadable c.verify.ensures.read c.hand.ensures

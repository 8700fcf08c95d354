-- What the command answers is handed over.
use Rattle.sdjwt_cli.specs.Answers.{IssueAnswers}
use Rattle.sdjwt_c.proofs.Handing.{handed}
use Rattle.sdjwt_c.proofs.commands.sdjwt_issue.Goals as goal

pub returns : goal.returns
returns c = handed ⊥ (λ m. m) (λ reply. IssueAnswers c.args.order.now c.args.seed.now reply) c.args.room.now c.hand.new.room c.hand.new.len c.number.result c.hand.result c.number.ensures
    c.issue.result c.issue.ensures.issues c.issue.ensures.refuses c.issue.ensures.unreadable c.issue.ensures.read c.hand.ensures

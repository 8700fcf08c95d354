use Rattle.std.proofs.Common.{arith}
use Rattle.verifier_core.specs.AskingSteps.{demands_in}
use Rattle.verifier_core.proofs.Asked.{issuer_asked, needed_below}
use Rattle.verifier_core.proofs.Judgements.{judged_issuer, none_next_of_issuer}
use Rattle.verifier_core.proofs.asking.ask_issuer.Goals as goal

pub refused-requires : goal.refused-requires
refused-requires c =
    let k = c.args.case in
    record {
      lowest = c.requires.bad.lowest;
      needed = needed_below k.text.now (demands_in k) k.now c.args.fault c.requires.bad.lowest c.args.token.now c.requires.bad.is_token k.answers (λ none. none c.args.question.signature c.requires.question.signature) (omega (arith, c.requires.bad.at));
      done = none_next_of_issuer k.text.now (demands_in k) k.now c.args.fault c.requires.bad.lowest c.requires.bad.at k.answers c.in_default.not-Nothing;
    }

pub returns-in-Nothing : goal.returns-in-Nothing
returns-in-Nothing c =
    let k = c.args.case in
    judged_issuer k.text.now (demands_in k) k.now k.answers c.args.question
    (record {
      unsaid = c.in-Nothing.is;
      token = c.args.token.now;
      asked = issuer_asked k.text.now (demands_in k) k.now c.args.fault c.requires.bad.lowest c.args.token.now c.requires.bad.is_token (omega (arith, c.requires.bad.at)) (λ none. none c.args.question.signature c.requires.question.signature);
      question_is = c.requires.question;
    })

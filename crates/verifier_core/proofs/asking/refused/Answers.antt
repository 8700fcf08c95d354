use Rattle.key_binding.proofs.BindingTests.{no_truth}
use Rattle.verifier_core.specs.AskingSteps.{demands_in}
use Rattle.verifier_core.proofs.Asked.{not_needed}
use Rattle.verifier_core.proofs.Judgements.{judged_not_asked}
use Rattle.verifier_core.proofs.asking.refused.Goals as goal

pub returns-else-is_needed_at : goal.returns-else-is_needed_at
returns-else-is_needed_at c =
    let k = c.args.case in
    judged_not_asked k.text.now (demands_in k) k.now k.answers
    (λ asked. not_needed k.text.now (demands_in k) k.now c.args.fault c.requires.lowest k.answers (λ needed. no_truth _ c.if-is_needed_at.false (c.is_needed_at.ensures.1 needed)) asked)

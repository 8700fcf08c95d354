-- With a number by which something or nothing is said, the next step is handed over.
use Rattle.std.proofs.Common.{◌<◌, Option, subst, arith}
use Rattle.key_binding.specs.declared.caller.SignatureAnswer.{SignatureAnswer}
use Rattle.sdjwt_c.specs.Presenting.{HandsStepBy, AsksToPresent}
use Rattle.sdjwt_c.proofs.Presentings.{handed_step}
use Rattle.sdjwt_c.proofs.presenting.sdjwt_present_ask.Goals as goal

pub returns : goal.returns
returns c =
    let order = c.args.order.now in let token = c.args.token.now in let now = c.args.now in
    let Misused : Type 0 = 3 < c.args.issuer in
    let kept : Misused → ⊥ = λ more. omega (arith, more, c.if-issuer-gt-SAID_MAX.false) in
    let Said : Option SignatureAnswer → Type 0 = λ word. HandsStepBy Misused (AsksToPresent order token now word) c.args.room.now c.hand_step.new.room c.hand_step.new.len c.hand_step.result in
    subst Said c.answer_of.ensures
    (handed_step Misused kept (AsksToPresent order token now c.answer_of.result) c.args.room.now c.hand_step.new.room c.hand_step.new.len c.hand_step.result c.next_step.result c.next_step.ensures c.hand_step.ensures)

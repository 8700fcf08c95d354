use Rattle.std.proofs.Common.{take, IfSome}
use Rattle.compact_form.specs.Compact.{AreWords}
use Rattle.wallet_core.specs.LookUps.{RoseWithinSum}
use Rattle.wallet_core.specs.WalletSteps.{IsBest}
use Rattle.wallet_core.proofs.answering.answer.Given as goal

abbrev pub invariant-loop-index : goal.invariant-loop-index
invariant-loop-index g l =
    IsBest g.F.Fn l.consent (take l.index l.text-items) l.query l.best
    × IfSome l.best (λ choice. AreWords choice.parts)
    × RoseWithinSum l.query.keys (take l.index l.text-items) l.fn.steps l.steps

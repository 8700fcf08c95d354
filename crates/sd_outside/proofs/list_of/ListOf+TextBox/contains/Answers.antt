use Rattle.std.proofs.Common.{refl, arith}
use Rattle.sd_outside.proofs.Lists.{At-In, In-At, At-below}
use Rattle.sd_outside.proofs.list_of.ListOf+TextBox.contains.Goals as goal

pub returns-then-is_at : goal.returns-then-is_at
returns-then-is_at c = (λ h. At-In c.args.self.now c.loop-i.i c.args.text.now (c.if-is_at.ensures.0 refl), λ h. refl)

pub returns : goal.returns
returns c = (
  λ h. cc h,
  λ among.
      let w = In-At c.args.self.now c.args.text.now among in
      let below = At-below c.args.self.now w.0 c.args.text.now w.1 in
      absurd (c.loop-i.invariant w.0 (omega (arith, below, c.loop-i-test.false, c.len-i-end.ensures)) w.1),
)

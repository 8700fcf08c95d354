use Rattle.std.proofs.Common.{◌≡◌, decimal, sym, ◌∙◌, refl, arith, subst}
use Rattle.claim_tree.proofs.Positions.{element_on-none, element_on-some}
use Rattle.claim_tree.proofs.inside.stepped.Goals as goal

pub returns-in_err-position-in-List : goal.returns-in_err-position-in-List
returns-in_err-position-in-List c =
    let none = element_on-none c.in-List.trees 0 c.args.step.now (λ j below. c.in_err-position-in-List.ensures.none refl j (omega (arith, below, c.len.ensures))) in
    record { value = rw (c.from_residual.ensures, c.in-List.is) (sym none) }

pub returns-in_ok-position-in-List : goal.returns-in_ok-position-in-List
returns-in_ok-position-in-List c =
    let some = element_on-some c.in-List.trees 0 c.in_ok-position-in-List.field-0 c.args.step.now (omega arith) (subst (λ i. decimal i ≡ c.args.step.now) (omega arith) c.in_ok-position-in-List.ensures.digits) in
    record { value = rw c.in-List.is (c.at.ensures ∙ sym some) }

use Rattle.std.proofs.Common.{◌≡◌, decimal, sym, ◌∙◌, refl, arith, subst}
use Rattle.marked_tree.proofs.StepFacts.{element_nowhere, element_there}
use Rattle.marked_tree.proofs.inside.found.Goals as goal

pub returns-in_err-position-in-List-clause-value :
    goal.returns-in_err-position-in-List-clause-value
returns-in_err-position-in-List-clause-value c =
    let none = element_nowhere c.in-List.list 0 c.args.step.now (λ j below. c.in_err-position-in-List.ensures.none refl j (omega (arith, below, c.len.ensures))) in
    rw (c.from_residual.ensures, c.in-List.is) (sym none)

pub returns-in_ok-position-in-List-clause-value : goal.returns-in_ok-position-in-List-clause-value
returns-in_ok-position-in-List-clause-value c =
    let some = element_there c.in-List.list 0 c.in_ok-position-in-List.field-0 c.args.step.now (omega arith) (subst (λ i. decimal i ≡ c.args.step.now) (omega arith) c.in_ok-position-in-List.ensures.digits) in
    rw c.in-List.is (c.at.ensures ∙ sym some)

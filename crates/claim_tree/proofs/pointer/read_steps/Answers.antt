use Rattle.std.proofs.Common.{◌≡◌, sym, ◌∙◌, ap}
use Rattle.std.specs.Prelude.{Err}
use Rattle.std.proofs.lemmas.Result.{err_from_is_err_and}
use Rattle.claim_tree.specs.PointerRefusals.{lone_tilde}
use Rattle.claim_tree.specs.declared.pointer.PointerError.TheVariants.{Syntax}
use Rattle.claim_tree.proofs.PointerPieces.{step_cut, step_read, lone_in_step}
use Rattle.claim_tree.proofs.pointer.read_steps.Goals as goal

pub returns-in_err-read-clause-syntax : goal.returns-in_err-read-clause-syntax
returns-in_err-read-clause-syntax c syntax =
    let steps = c.in-Some.ensures.steps in
    let cut = step_cut c.args.text.now c.loop-step.path c.loop-step.step-iterator c.next.new.self c.in-Some.step.now c.loop-step.invariant steps.0 steps.1.1 in
    let handed = err_from_is_err_and c.from_residual-in_err-read.result c.from_residual-in_err-read.ensures.1 in
    let error : handed.0 ≡ Syntax = let both = sym handed.1 ∙ syntax in cc in
    let lone = c.in_err-read.ensures.syntax (ap Err (sym handed.2 ∙ error)) in
    lone_tilde (lone_in_step c.args.text.now c.loop-step.path _ c.in-Some.step.now _ _ cut.0 cut.1 lone)

pub loop-step-preserved : goal.loop-step-preserved
loop-step-preserved c =
    let steps = c.in-Some.ensures.steps in
    let cut = step_cut c.args.text.now c.loop-step.path c.loop-step.step-iterator c.next.new.self c.in-Some.step.now c.loop-step.invariant steps.0 steps.1.1 in
    record {
      slash = steps.1.0 ∙ c.loop-step.invariant.slash;
      spelling = rw (c.in_ok-push.ensures.ok, c.as_str.ensures) (step_read c.args.text.now c.loop-step.path _ c.in-Some.step.now c.in_ok-read.read _ _ cut.0 cut.1 c.in_ok-read.ensures.ok);
    }

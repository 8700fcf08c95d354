use Rattle.std.proofs.Common.{refl, subst, arith}
use Rattle.sd_outside.proofs.Lists.{At-same}
use Rattle.digest_sites.specs.GivenView.{given_of}
use Rattle.rebuild_core.specs.Rows.{seen}
use Rattle.rebuild_core.specs.RowNames.{IsMisfit}
use Rattle.rebuild_core.proofs.LeastIll.{number_at, seen_at, low_take, low_pass, low_found, low_none}
use Rattle.rebuild_core.proofs.names.first_misfit.Goals as goal
use Rattle.rebuild_core.proofs.names.first_misfit.Goals.{then-number-least+then-is_misfit, else-number-least, else-number-least-via-then-number-least+else-is_misfit, else-number-least-via-else-number-least}

pub loop-place-preserved : goal.loop-place-preserved
loop-place-preserved c =
    let row = seen c.index-rows-place.result in
    let a = number_at c.args.rows.now c.args.numbers.now c.loop-place.place c.requires c.loop-place-test.true in
    let b = seen_at c.args.rows.now c.loop-place.place c.index-rows-place.result _ c.loop-place-test.true c.index-rows-place.is in
    elim c.if-number-least.branch [
      | then-number-least+then-is_misfit w ↦ rw w.least-is
          (low_take (IsMisfit c.args.misfit) _ _ _ _ _ _ _ _ c.loop-place.invariant a b w.given_at.ensures w.if-number-least.true (w.if-is_misfit.ensures.0 refl))
      | else-number-least w ↦ rw w.least-is (low_pass (IsMisfit c.args.misfit) _ _ _ _ _ _ _ c.loop-place.invariant a b
          (λ x at less ill. elim w.else-number-least.branch [
            | else-number-least-via-then-number-least+else-is_misfit v ↦
                let z = v.if-is_misfit.ensures.1 (subst (λ z. IsMisfit c.args.misfit row z) (At-same c.args.given.now _ x (given_of v.given_at.result.now) at v.given_at.ensures) ill) in
                cc
            | else-number-least-via-else-number-least v ↦ omega (arith, less, v.if-number-least.false)
          ]))
    ]

pub returns-then-least-len : goal.returns-then-least-len
returns-then-least-len c =
    low_found (IsMisfit c.args.misfit) _ _ _ _ _ c.loop-place.invariant
    (omega (arith, c.loop-place-test.false, c.requires)) (omega (arith, c.if-least-len.true, c.len.ensures))

pub returns-else-least-len : goal.returns-else-least-len
returns-else-least-len c =
    low_none (IsMisfit c.args.misfit) _ _ _ _ _ c.loop-place.invariant
    (omega (arith, c.loop-place-test.false, c.requires)) (omega (arith, c.if-least-len.false, c.len.ensures))

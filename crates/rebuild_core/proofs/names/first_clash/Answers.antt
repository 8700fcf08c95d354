use Rattle.std.proofs.Common.{inl, inr, refl, sym, arith}
use Rattle.std.proofs.lemmas.List.{length-map}
use Rattle.rebuild_core.specs.Rows.{seen}
use Rattle.rebuild_core.specs.Disclosed.{is_name_disclosed}
use Rattle.rebuild_core.proofs.LeastIll.{number_at, seen_at}
use Rattle.rebuild_core.proofs.ClashFacts.{noted_found, noted_step, noted_skip, noted_end, was_noted, is_new}
use Rattle.rebuild_core.proofs.names.first_clash.Goals as goal
use Rattle.rebuild_core.proofs.names.first_clash.Goals.{then-is_beside-via-then-is_beside, then-is_beside-via-else-is_beside+in_ok-note+then-not-branch, in-Some+else-is_beside+in_ok-note+else-not-branch, in_default}

pub returns-then-is_beside : goal.returns-then-is_beside
returns-then-is_beside c =
    let row = seen c.index-rows-place.result in
    let a = number_at c.args.rows.now c.args.numbers.now c.loop-place.place c.requires c.loop-place-test.true in
    let b = seen_at c.args.rows.now c.loop-place.place c.index-rows-place.result _ c.loop-place-test.true c.index-rows-place.is in
    noted_found _ _ _ _ _ c.loop-place.invariant row c.in-Some.name.now (b, _, a, sym c.in-Some.ensures)
    (elim c.then-is_beside.branch [
      | then-is_beside-via-then-is_beside w ↦ inl (w.if-is_beside.ensures.0 refl)
      | then-is_beside-via-else-is_beside+in_ok-note+then-not-branch w ↦ inr (was_noted w.in_ok-note.field-0 (is_name_disclosed c.loop-place.disclosed row.object c.in-Some.name.now) w.in_ok-note.ensures.new w.if-not-branch.true)
    ])

pub loop-place-preserved : goal.loop-place-preserved
loop-place-preserved c =
    let row = seen c.index-rows-place.result in
    let a = number_at c.args.rows.now c.args.numbers.now c.loop-place.place c.requires c.loop-place-test.true in
    let b = seen_at c.args.rows.now c.loop-place.place c.index-rows-place.result _ c.loop-place-test.true c.index-rows-place.is in
    elim c.match-name_given.branch [
      | in-Some+else-is_beside+in_ok-note+else-not-branch w ↦ rw w.disclosed-is
          (noted_step _ _ _ _ _ (is_name_disclosed w.note.new.disclosed) c.loop-place.invariant row w.in-Some.name.now (b, _, a, sym w.in-Some.ensures)
          (λ h. let z = w.if-is_beside.ensures.1 h in cc)
          (is_new w.in_ok-note.field-0 (is_name_disclosed c.loop-place.disclosed row.object w.in-Some.name.now) w.in_ok-note.ensures.new w.if-not-branch.false) w.in_ok-note.ensures.noted)
      | in_default w ↦ rw w.disclosed-is (noted_skip _ _ _ _ _ row _ c.loop-place.invariant b a w.in_default.ensures)
    ]

pub returns : goal.returns
returns c =
    noted_end _ _ _ _ _ c.loop-place.invariant
    (omega (arith, c.loop-place-test.false, length-map c.args.rows.now seen))

use Rattle.std.proofs.Common.{◌∙◌}
use Rattle.std.proofs.lemmas.List.{length-map}
use Rattle.rebuild_core.specs.Rows.{seen}
use Rattle.rebuild_core.proofs.NamesJudged.{rows_fit, wrong_least, wrong_none, reserved_least, reserved_none, clash_least, clash_none}
use Rattle.rebuild_core.proofs.names.check_names.Goals as goal

pub first_misfit-requires : goal.first_misfit-requires
first_misfit-requires c = rows_fit _ _ _ _ c.is_readable.ensures c.requires.object c.requires.referenced c.requires.numbered c.requires.rows ∙ length-map c.args.rows.now seen

pub first_misfit-requires-2 : goal.first_misfit-requires-2
first_misfit-requires-2 c = rows_fit _ _ _ _ c.is_readable.ensures c.requires.object c.requires.referenced c.requires.numbered c.requires.rows ∙ length-map c.args.rows.now seen

pub first_clash-requires : goal.first_clash-requires
first_clash-requires c = rows_fit _ _ _ _ c.is_readable.ensures c.requires.object c.requires.referenced c.requires.numbered c.requires.rows ∙ length-map c.args.rows.now seen

pub returns-in-Some : goal.returns-in-Some
returns-in-Some c = (c.requires.referenced, wrong_least _ _ _ _ c.is_readable.ensures c.requires.object c.requires.referenced c.requires.numbered c.requires.rows c.in-Some.i c.in-Some.ensures)

pub returns-in-Some-first_misfit : goal.returns-in-Some-first_misfit
returns-in-Some-first_misfit c = (
  c.requires.referenced,
  wrong_none _ _ _ _ c.is_readable.ensures c.requires.object c.requires.referenced c.requires.numbered c.requires.rows c.in_default.ensures,
  reserved_least _ _ _ _ c.is_readable.ensures c.requires.object c.requires.referenced c.requires.numbered c.requires.rows c.in-Some-first_misfit.i c.in-Some-first_misfit.ensures,
)

pub returns-in-Some-2 : goal.returns-in-Some-2
returns-in-Some-2 c = (
  c.requires.referenced,
  wrong_none _ _ _ _ c.is_readable.ensures c.requires.object c.requires.referenced c.requires.numbered c.requires.rows c.in_default.ensures,
  reserved_none _ _ _ _ c.is_readable.ensures c.requires.object c.requires.referenced c.requires.numbered c.requires.rows c.in_default-first_misfit.ensures,
  clash_least _ _ _ _ c.is_readable.ensures c.requires.object c.requires.referenced c.requires.numbered c.requires.rows c.in-Some-2.place (rw c.in-Some-2.is at c.in_ok-place.ensures),
)

pub returns : goal.returns
returns c = record {
  no_wrong_shape = wrong_none _ _ _ _ c.is_readable.ensures c.requires.object c.requires.referenced c.requires.numbered c.requires.rows c.in_default.ensures;
  no_reserved_name = reserved_none _ _ _ _ c.is_readable.ensures c.requires.object c.requires.referenced c.requires.numbered c.requires.rows c.in_default-first_misfit.ensures;
  no_name_clash = clash_none _ _ _ _ c.is_readable.ensures c.requires.object c.requires.referenced c.requires.numbered c.requires.rows (rw c.in_default-2.is at c.in_ok-place.ensures);
}

use Rattle.std.proofs.Common.{◌≡◌, inl, inr, sym, ◌∙◌, subst, arith}
use Rattle.std.proofs.lemmas.Bool.{cases_lt}
use Rattle.claim_tree.specs.ListViews.{elements_of}
use Rattle.json_form.specs.Json.{IsStray}
use Rattle.json_form.proofs.EntryLists.{stray_here, not_here, not_past}
use Rattle.json_form.proofs.signatures.first_stray.Goals as goal

pub returns-then-is_odd : goal.returns-then-is_odd
returns-then-is_odd c =
    record {
      fails = stray_here c.args.entries.now c.loop-place.place c.index-entries-place.result c.loop-place.invariant.0 c.loop-place-test.true c.index-entries-place.is (sym c.is_odd.ensures ∙ c.if-is_odd.true);
      first = c.loop-place.invariant.1;
    }

pub loop-place-preserved : goal.loop-place-preserved
loop-place-preserved c = (
  omega (arith, c.loop-place.invariant.0),
  λ earlier less stray.
      elim (cases_lt earlier c.loop-place.place) [
        | inl low ↦ c.loop-place.invariant.1 earlier low stray
        | inr high ↦
            let same : earlier ≡ c.loop-place.place = omega (arith, less, high) in
            not_here c.args.entries.now c.loop-place.place c.index-entries-place.result c.loop-place-test.true c.index-entries-place.is (sym c.is_odd.ensures ∙ c.if-is_odd.false) (subst (IsStray (elements_of c.args.entries.now)) same stray)
      ],
)

pub returns : goal.returns
returns c place stray =
    elim (cases_lt place c.loop-place.place) [
      | inl low ↦ c.loop-place.invariant.1 place low stray
      | inr high ↦ not_past c.args.entries.now place (omega (arith, high, c.loop-place-test.false)) stray
    ]

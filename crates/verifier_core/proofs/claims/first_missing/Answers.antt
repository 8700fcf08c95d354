use Rattle.std.proofs.Common.{◌≡◌, Some, slice_get, ap, sym, ◌∙◌, arith}
use Rattle.std.specs.Option.{option_copied}
use Rattle.claim_tree.specs.View.{tree_of}
use Rattle.sd_outside.proofs.Lists.{At-below, got_stands}
use Rattle.verifier_core.proofs.ClaimSteps.{no_claim, some_claim, has_more}
use Rattle.verifier_core.proofs.claims.first_missing.Goals as goal

pub returns-then-is_none-clause-first : goal.returns-then-is_none-clause-first
returns-then-is_none-clause-first c =
    let names = c.args.names.now in
    let name = c.as_str.result.now in
    let read : slice_get names c.loop-i.i ≡ Some name = sym c.at.ensures ∙ ap option_copied c.unwrap-name.ensures ∙ ap Some (sym c.as_str.ensures) in
    record {
      fails = (name, got_stands names c.loop-i.i name read, no_claim c.get.result _ c.get.ensures.value c.if-is_none.ensures);
      first = λ earlier less h. c.loop-i.invariant earlier h.0 less h.1 h.2;
    }

pub loop-i-preserved : goal.loop-i-preserved
loop-i-preserved c =
    let names = c.args.names.now in
    let name = c.as_str.result.now in
    let read : slice_get names c.loop-i.i ≡ Some name = sym c.at.ensures ∙ ap option_copied c.unwrap-name.ensures ∙ ap Some (sym c.as_str.ensures) in
    has_more (tree_of c.args.payload.now) names c.loop-i.i name c.loop-i.invariant (got_stands names c.loop-i.i name read) (some_claim c.get.result _ c.get.ensures.value c.if-is_none.ensures)

pub returns-clause-none : goal.returns-clause-none
returns-clause-none c i name at = c.loop-i.invariant i name (omega (arith, At-below c.args.names.now i name at, c.len-i-end.ensures, c.loop-i-test.false)) at

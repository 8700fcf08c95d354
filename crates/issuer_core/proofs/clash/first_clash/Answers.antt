use Rattle.std.proofs.Common.{◌≡◌, ◌≤◌, Some, take, slice_get, ap, sym, ◌∙◌, arith, below_more, add-one}
use Rattle.std.specs.Option.{option_copied}
use Rattle.sd_outside.proofs.Lists.{At-below, got_stands}
use Rattle.digest_index.specs.Index.{position_or_end, interned}
use Rattle.rebuild_core.proofs.Repeated.{repeats_new, grows_new}
use Rattle.issuer_core.proofs.Clashes.{clash_at}
use Rattle.issuer_core.proofs.clash.first_clash.Goals as goal

pub returns-then-i-j-clause-clash : goal.returns-then-i-j-clause-clash
returns-then-i-j-clause-clash c =
    let ds = c.args.digests.now in
    let d = c.as_str.result.now in
    let read : slice_get ds c.loop-j.j ≡ Some d = sym c.at.ensures ∙ ap option_copied c.unwrap-digest.ensures ∙ ap Some (sym c.as_str.ensures) in
    let place : c.in_ok-i.i ≡ position_or_end d (take c.loop-j.j ds) = c.in_ok-i.ensures.position ∙ ap (position_or_end d) c.loop-j.invariant.0 in
    clash_at ds c.loop-j.j c.in_ok-i.i d (got_stands ds c.loop-j.j d read) place c.if-i-j.true c.loop-j.invariant.1

pub loop-j-preserved : goal.loop-j-preserved
loop-j-preserved c =
    let ds = c.args.digests.now in
    let d = c.as_str.result.now in
    let read : slice_get ds c.loop-j.j ≡ Some d = sym c.at.ensures ∙ ap option_copied c.unwrap-digest.ensures ∙ ap Some (sym c.as_str.ensures) in
    let at = got_stands ds c.loop-j.j d read in
    let place : c.in_ok-i.i ≡ position_or_end d (take c.loop-j.j ds) = c.in_ok-i.ensures.position ∙ ap (position_or_end d) c.loop-j.invariant.0 in
    let new : c.loop-j.j ≤ position_or_end d (take c.loop-j.j ds) = omega (arith, place, c.if-i-j.false) in (
      c.in_ok-i.ensures.ok ∙ (ap (interned d) c.loop-j.invariant.0 ∙ (grows_new ds c.loop-j.j d at new ∙ ap (λ n. take n ds) (sym (add-one c.loop-j.j)))),
      below_more _ _ c.loop-j.invariant.1 (repeats_new ds c.loop-j.j d at new),
    )

pub returns-clause-none : goal.returns-clause-none
returns-clause-none c place repeats =
    c.loop-j.invariant.1 place (omega (arith, At-below c.args.digests.now place repeats.0 repeats.1, c.len-j-end.ensures, c.loop-j-test.false)) repeats

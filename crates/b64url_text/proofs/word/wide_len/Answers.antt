use Rattle.std.proofs.Common.{◌≡◌, ◌+◌, ap, sym, arith, drop}
use Rattle.std.specs.List.{prefix_len}
use Rattle.b64url_text.specs.Base64url.{is_letter}
use Rattle.b64url_text.proofs.LaneRuns.{run_goes_on}
use Rattle.b64url_text.proofs.word.wide_len.Goals as goal

pub loop-at-preserved : goal.loop-at-preserved
loop-at-preserved c =
    let at = c.loop-at.at in
    let text = c.args.text.now in
    let first = run_goes_on is_letter text at 32 32 (omega arith) (sym (c.are_letters.ensures.first c.if-are_letters.true)) (omega arith) in
    let second = run_goes_on is_letter text (at + 32) 32 32 (omega arith) (sym (c.are_letters.ensures.second c.if-are_letters.true)) (omega arith) in
    let behind : prefix_len is_letter (drop (at + 32 + 32) text) ≡ prefix_len is_letter (drop (at + 64) text) = ap (λ n. prefix_len is_letter (drop n text)) (omega arith) in
    record { within = omega arith; counted = omega (arith, first, second, behind, c.loop-at.invariant.counted) }

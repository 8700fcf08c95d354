use Rattle.std.proofs.Common.{length-drop, ◌-◌, ◌∙◌, ap, arith, length, drop}
use Rattle.std.proofs.lemmas.List.Sums.{prefix_len-le-length}
use Rattle.std.proofs.lemmas.List.{take_all}
use Rattle.std.specs.List.{prefix_len}
use Rattle.b64url_text.specs.Base64url.{is_letter}
use Rattle.b64url_text.proofs.LaneRuns.{run_ends, run_goes_on}
use Rattle.b64url_text.proofs.word.word_len.Goals as goal

pub returns-then-letters-lt-LANES : goal.returns-then-letters-lt-LANES
returns-then-letters-lt-LANES c =
    let at = c.loop-at.at in
    let ends = run_ends is_letter c.args.text.now at 32 c.letters_at-letters.result (omega arith) c.letters_at-letters.ensures (omega arith) in
    omega (arith, ends, c.loop-at.invariant.counted)

pub loop-at-preserved : goal.loop-at-preserved
loop-at-preserved c =
    let at = c.loop-at.at in
    let on = run_goes_on is_letter c.args.text.now at 32 c.letters_at-letters.result (omega arith) c.letters_at-letters.ensures (omega arith) in
    record { within = omega arith; counted = omega (arith, on, c.loop-at.invariant.counted) }

pub overflow_add-result-2 : goal.overflow_add-result-2
overflow_add-result-2 c =
    let at = c.loop-at.at in
    let rest = c.short_word_len.ensures ∙ ap (prefix_len is_letter) (take_all (length c.args.text.now - at) (drop at c.args.text.now) (omega (arith, length-drop at c.args.text.now))) in
    record { fits = omega (arith, rest, c.loop-at.invariant.counted, prefix_len-le-length is_letter c.args.text.now) }

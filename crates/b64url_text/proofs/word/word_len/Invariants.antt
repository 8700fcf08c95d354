use Rattle.std.proofs.Common.{◌-◌, length}
use Rattle.b64url_text.proofs.LaneRuns.{IsLettersTo}
use Rattle.b64url_text.proofs.word.word_len.Given as goal

abbrev pub invariant-loop-at : goal.invariant-loop-at
invariant-loop-at l = IsLettersTo l.text l.at

abbrev pub decreases-loop-at : goal.decreases-loop-at
decreases-loop-at l = length l.text - l.at

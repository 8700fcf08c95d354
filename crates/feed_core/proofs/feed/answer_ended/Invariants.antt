use Rattle.std.proofs.Common.{◌≤◌, ◌+◌, length, string_bytes}
use Rattle.sd_outside.specs.Limits.{file_max}
use Rattle.feed_core.proofs.Answering.{Answered}
use Rattle.feed_core.proofs.feed.answer_ended.Given as goal

abbrev pub invariant-loop-line : goal.invariant-loop-line
invariant-loop-line g l =
    record {
      answered : Answered l.policy l.now l.fn.rest.items l.piece l.left l.rest.items l.fn.count l.count (string_bytes l.held) (g.O.Sink.written l.fn.out) (g.O.Sink.written l.out);
      countable : l.count + length l.left ≤ l.fn.count + length l.piece;
      short : length l.rest.items ≤ file_max + 1;
      few : length (string_bytes l.held) ≤ 65536;
      later : g.O.Sink.faults l.fn.out ≤ g.O.Sink.faults l.out;
    }

abbrev pub decreases-loop-line : goal.decreases-loop-line
decreases-loop-line g l = length l.left

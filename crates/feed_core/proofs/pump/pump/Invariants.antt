use Rattle.std.proofs.Common.{◌≡◌, ◌≤◌, length}
use Rattle.feed_core.specs.FeedSource.{input}
use Rattle.feed_core.proofs.Pumping.{Pumped}
use Rattle.feed_core.proofs.pump.pump.Given as goal

abbrev pub invariant-loop-count : goal.invariant-loop-count
invariant-loop-count g l =
    record {
      pumped : Pumped l.fn.feed.policy l.fn.feed.now l.most l.left (input g.R.Source l.fn.src)
          (input g.R.Source l.src) l.feed (g.O.Sink.written l.fn.out) (g.O.Sink.written l.out);
      room : length l.room ≡ 65536;
      later : g.O.Sink.faults l.fn.out ≤ g.O.Sink.faults l.out;
      source_later : g.R.Source.faults l.fn.src ≤ g.R.Source.faults l.src;
    }

abbrev pub decreases-loop-count : goal.decreases-loop-count
decreases-loop-count g l = l.left

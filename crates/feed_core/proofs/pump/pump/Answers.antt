use Rattle.std.proofs.Common.{◌≡◌, ◌+◌, ◌-◌, take, length, Err, refl, sym, ap, subst, arith}
use Rattle.std.proofs.lemmas.List.{length-take}
use Rattle.std.proofs.lemmas.Result.{on_ok_weaker}
use Rattle.feed_core.specs.Feed.{FeedState}
use Rattle.feed_core.specs.FeedSource.{input}
use Rattle.feed_core.specs.declared.pump.Halt.TheVariants.{Memory, Unwritten, TooLong}
use Rattle.feed_core.proofs.Pumping.{Pumped, pumped_first, pumped_more, counted, pumped_long, pumped_front, pumped_unended, pumped_all, nothing, err_holds}
use Rattle.feed_core.proofs.pump.pump.Goals as goal

pub loop-count-init : goal.loop-count-init
loop-count-init g c =
    let before = input g.R.Source c.args.src.now in
    let old = g.O.Sink.written c.args.out.now in
    let P : FeedState → Type 0 = λ f. Pumped c.args.feed.now.policy c.args.feed.now.now c.args.most c.args.most before before f old old in
    record {
      pumped = subst P (sym c.requires.fresh) (pumped_first c.args.feed.now.policy c.args.feed.now.now c.args.most before old);
      room = refl;
      later = omega arith;
      source_later = omega arith;
    }

pub returns-in-Err-clause-long : goal.returns-in-Err-clause-long
returns-in-Err-clause-long g c long =
    let same : c.in-Err.halt ≡ TooLong = cc long in
    pumped_long c.args.feed.now.policy c.args.feed.now.now c.args.most (input g.R.Source c.args.src.now) (g.O.Sink.written c.args.out.now) c.loop-count.left (input g.R.Source c.loop-count.src) (input g.R.Source c.pull_piece.new.src) c.loop-count.feed (g.O.Sink.written c.loop-count.out) c.loop-count.invariant.pumped (c.in-Err.ensures.none_left (ap Err same)) (c.in-Err.ensures.long (ap Err same))

pub end_feed-requires-clause-countable : goal.end_feed-requires-clause-countable
end_feed-requires-clause-countable g c =
    let few = counted c.args.feed.now.policy c.args.feed.now.now c.args.most (input g.R.Source c.args.src.now) (g.O.Sink.written c.args.out.now) c.loop-count.left (input g.R.Source c.loop-count.src) c.loop-count.feed (g.O.Sink.written c.loop-count.out) c.loop-count.invariant.pumped in
    omega (arith, few, c.requires.few)

pub returns-then-count-eq0-clause-all : goal.returns-then-count-eq0-clause-all
returns-then-count-eq0-clause-all g c =
    let gave = nothing (input g.R.Source c.loop-count.src) (input g.R.Source c.pull_piece.new.src) c.in-Ok.count c.pull_piece.new.room c.if-count-eq0.true c.in-Ok.ensures.gave in
    on_ok_weaker c.end_feed.result (pumped_all c.args.feed.now.policy c.args.feed.now.now c.args.most (input g.R.Source c.args.src.now) (g.O.Sink.written c.args.out.now) c.loop-count.left (input g.R.Source c.loop-count.src) (input g.R.Source c.pull_piece.new.src) c.loop-count.feed (g.O.Sink.written c.loop-count.out) (g.O.Sink.written c.end_feed.new.out) c.loop-count.invariant.pumped gave
    (c.in-Ok.ensures.end c.if-count-eq0.true)) c.end_feed.ensures.ends

pub returns-then-count-eq0-clause-front : goal.returns-then-count-eq0-clause-front
returns-then-count-eq0-clause-front g c is =
    let gave = nothing (input g.R.Source c.loop-count.src) (input g.R.Source c.pull_piece.new.src) c.in-Ok.count c.pull_piece.new.room c.if-count-eq0.true c.in-Ok.ensures.gave in
    pumped_unended c.args.feed.now.policy c.args.feed.now.now c.args.most (input g.R.Source c.args.src.now) (g.O.Sink.written c.args.out.now) c.loop-count.left (input g.R.Source c.loop-count.src) (input g.R.Source c.pull_piece.new.src) c.loop-count.feed (g.O.Sink.written c.loop-count.out) (g.O.Sink.written c.end_feed.new.out) c.loop-count.invariant.pumped gave
    (err_holds c.end_feed.result Memory Unwritten is c.end_feed.ensures.front)

pub take_piece-requires-clause-countable : goal.take_piece-requires-clause-countable
take_piece-requires-clause-countable g c =
    let few = counted c.args.feed.now.policy c.args.feed.now.now c.args.most (input g.R.Source c.args.src.now) (g.O.Sink.written c.args.out.now) c.loop-count.left (input g.R.Source c.loop-count.src) c.loop-count.feed (g.O.Sink.written c.loop-count.out) c.loop-count.invariant.pumped in
    omega (arith, few, c.requires.few, length-take c.in-Ok.count c.pull_piece.new.room, c.in-Ok.ensures.within, c.loop-count.invariant.pumped.used)

pub returns-in-Err-take_piece-clause-front : goal.returns-in-Err-take_piece-clause-front
returns-in-Err-take_piece-clause-front g c is =
    pumped_front c.args.feed.now.policy c.args.feed.now.now c.args.most (input g.R.Source c.args.src.now) (g.O.Sink.written c.args.out.now) c.loop-count.left (input g.R.Source c.loop-count.src) (input g.R.Source c.pull_piece.new.src) c.loop-count.feed (take c.in-Ok.count c.pull_piece.new.room) (g.O.Sink.written c.loop-count.out) (g.O.Sink.written c.take_piece.new.out)
    c.loop-count.invariant.pumped c.in-Ok.ensures.gave (omega (arith, length-take c.in-Ok.count c.pull_piece.new.room, c.in-Ok.ensures.within)) c.in-Err-take_piece.ensures.front

pub loop-count-preserved : goal.loop-count-preserved
loop-count-preserved g c =
    let same = c.pull_piece.auto.room in
    let less : length (take c.in-Ok.count c.pull_piece.new.room) + (c.loop-count.left - c.in-Ok.count) ≡ c.loop-count.left
    = omega (arith, length-take c.in-Ok.count c.pull_piece.new.room, c.in-Ok.ensures.within, c.in-Ok.ensures.fits, same) in
    record {
      pumped = pumped_more c.args.feed.now.policy c.args.feed.now.now c.args.most (input g.R.Source c.args.src.now) (g.O.Sink.written c.args.out.now) c.loop-count.left (c.loop-count.left - c.in-Ok.count) (input g.R.Source c.loop-count.src) (input g.R.Source c.pull_piece.new.src) c.loop-count.feed c.take_piece.new.feed (take c.in-Ok.count c.pull_piece.new.room)
          (g.O.Sink.written c.loop-count.out) (g.O.Sink.written c.take_piece.new.out) c.loop-count.invariant.pumped c.in-Ok.ensures.gave c.in_default.ensures.takes less;
      room = omega (arith, same, c.loop-count.invariant.room);
      later = omega (arith, c.loop-count.invariant.later, c.take_piece.ensures.later);
      source_later = omega (arith, c.loop-count.invariant.source_later, c.pull_piece.ensures.later);
    }

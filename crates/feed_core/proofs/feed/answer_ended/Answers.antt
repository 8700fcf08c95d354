use Rattle.std.proofs.Common.{arith, [], ◌∷◌, ◌+◌, length, length-append, ap, string_bytes}
use Rattle.feed_core.proofs.Answering.{answered_first, answered_more, answered_sent, answered_stopped}
use Rattle.feed_core.proofs.Fronts.{at_err, whole_prefix}
use Rattle.feed_core.proofs.feed.answer_ended.Goals as goal

pub loop-line-init : goal.loop-line-init
loop-line-init g c = record {
  answered = rw c.new-held.ensures.bytes (answered_first c.args.policy.now c.args.now c.args.rest.now.items c.args.piece.now c.args.count.now (g.O.Sink.written c.args.out.now) c.requires.one);
  countable = omega arith;
  short = c.requires.short;
  few = omega (arith, ap length c.new-held.ensures.bytes);
  later = omega arith;
}

pub returns-in-Err-clause-front : goal.returns-in-Err-clause-front
returns-in-Err-clause-front g c =
    answered_stopped c.args.policy.now c.args.now c.args.rest.now.items c.args.piece.now c.args.count.now (g.O.Sink.written c.args.out.now)
    c.loop-line.left.now c.loop-line.rest.items (string_bytes c.loop-line.held) c.loop-line.count (g.O.Sink.written c.loop-line.out) (g.O.Sink.written c.stop.new.out)
    c.loop-line.invariant.answered (rw c.in-Err.ensures.same at c.stop.ensures.part)

pub returns-in_err-send_full-clause-front : goal.returns-in_err-send_full-clause-front
returns-in_err-send_full-clause-front g c =
    let told = c.in_default-answer_kept.ensures.told in
    let old = g.O.Sink.written c.args.out.now in
    let mid = g.O.Sink.written c.loop-line.out in
    at_err c.from_residual.result (answered_stopped c.args.policy.now c.args.now c.args.rest.now.items c.args.piece.now c.args.count.now old
    c.in-Some.more.now [] (string_bytes c.answer_kept.new.held) (c.loop-line.count + 1) mid (g.O.Sink.written c.send_full.new.out)
    (answered_more c.args.policy.now c.args.now c.args.rest.now.items c.args.piece.now c.args.count.now old
    c.loop-line.left.now c.in-Some.line.now c.in-Some.more.now c.loop-line.rest.items (string_bytes c.loop-line.held) told.0 (string_bytes c.answer_kept.new.held) c.loop-line.count mid
    c.loop-line.invariant.answered c.in-Some.ensures.0 c.in-Some.ensures.1 told.1 told.2) c.in_err-send_full.ensures.part)

pub loop-line-preserved : goal.loop-line-preserved
loop-line-preserved g c =
    let told = c.in_default-answer_kept.ensures.told in
    let sent = c.in_ok-send_full.ensures.sent in
    let old = g.O.Sink.written c.args.out.now in
    let mid = g.O.Sink.written c.loop-line.out in
    let long = ap length c.in-Some.ensures.0 in
    record {
      answered = rw c.in_default-answer_kept.ensures.none (answered_sent c.args.policy.now c.args.now c.args.rest.now.items c.args.piece.now c.args.count.now old
          c.in-Some.more.now [] (string_bytes c.answer_kept.new.held) sent.0 (string_bytes c.send_full.new.held) (c.loop-line.count + 1) mid (g.O.Sink.written c.send_full.new.out)
          (answered_more c.args.policy.now c.args.now c.args.rest.now.items c.args.piece.now c.args.count.now old
          c.loop-line.left.now c.in-Some.line.now c.in-Some.more.now c.loop-line.rest.items (string_bytes c.loop-line.held) told.0 (string_bytes c.answer_kept.new.held) c.loop-line.count mid
          c.loop-line.invariant.answered c.in-Some.ensures.0 c.in-Some.ensures.1 told.1 told.2) sent.1 sent.2);
      countable = omega (arith, long, length-append c.in-Some.line.now (10 ∷ c.in-Some.more.now), c.loop-line.invariant.countable);
      short = rw c.in_default-answer_kept.ensures.none (omega arith);
      few = c.in_ok-send_full.ensures.within;
      later = omega (arith, c.loop-line.invariant.later, c.send_full.ensures.later);
    }

pub returns-in_err-send-clause-front : goal.returns-in_err-send-clause-front
returns-in_err-send-clause-front g c =
    at_err c.from_residual-in_err-send.result (answered_stopped c.args.policy.now c.args.now c.args.rest.now.items c.args.piece.now c.args.count.now (g.O.Sink.written c.args.out.now)
    c.loop-line.left.now c.loop-line.rest.items (string_bytes c.loop-line.held) c.loop-line.count (g.O.Sink.written c.loop-line.out) (g.O.Sink.written c.send.new.out)
    c.loop-line.invariant.answered c.in_err-send.ensures.part)

pub returns-clause-front : goal.returns-clause-front
returns-clause-front g c =
    let mid = g.O.Sink.written c.loop-line.out in
    let new = g.O.Sink.written c.send.new.out in
    at_err c.keep.result (answered_stopped c.args.policy.now c.args.now c.args.rest.now.items c.args.piece.now c.args.count.now (g.O.Sink.written c.args.out.now)
    c.loop-line.left.now c.loop-line.rest.items (string_bytes c.loop-line.held) c.loop-line.count mid new
    c.loop-line.invariant.answered (whole_prefix mid new (string_bytes c.loop-line.held) c.in_ok-send.ensures.whole))

use Rattle.std.proofs.Common.{inl, inr, refl, map, string_bytes, Err, ap}
use Rattle.sd_outside.specs.declared.status.Status.{Status}
use Rattle.feed_core.proofs.Stopping.{stopped, all_judged, too_long, source_failed, out_failed, memory_failed}
use Rattle.feed_core.proofs.run.run_feed.Goals as goal

pub returns-in-Err-clause-ends : goal.returns-in-Err-clause-ends
returns-in-Err-clause-ends g c =
    stopped (map string_bytes c.args.words.now) _ _ c.args.now c.tell_stop.result _ _ c.in-Some.ensures.some (record { source = refl; out = refl }) c.in-Err.stop
    c.in-Err.ensures.fit c.in-Err.ensures.word c.in-Err.ensures.missed c.in-Err.ensures.rose c.in-Err.ensures.unreadable c.tell_stop.ensures.told

pub returns-in-Ok-pump-clause-ends : goal.returns-in-Ok-pump-clause-ends
returns-in-Ok-pump-clause-ends g c =
    all_judged (map string_bytes c.args.words.now) _ _ c.args.now Status.Done c.in-Some.name.now c.in-Some.most c.in-Ok.policy c.new.result c.in-Some.ensures.some c.in-Ok.ensures.policy c.new.ensures
    c.in-Ok-pump.ensures.all refl

pub returns-in-Err-TooLong-clause-ends : goal.returns-in-Err-TooLong-clause-ends
returns-in-Err-TooLong-clause-ends g c =
    too_long (map string_bytes c.args.words.now) _ _ c.args.now c.tell-in-Err-TooLong.result c.in-Some.name.now c.in-Some.most c.in-Ok.policy c.new.result c.in-Some.ensures.some c.in-Ok.ensures.policy c.new.ensures
    (c.in-Err-TooLong.ensures.long (ap Err c.in-Err-TooLong.field-0-is)) c.tell-in-Err-TooLong.ensures.status c.tell-in-Err-TooLong.ensures.told

pub returns-in-Err-Unread-clause-ends : goal.returns-in-Err-Unread-clause-ends
returns-in-Err-Unread-clause-ends g c =
    source_failed (map string_bytes c.args.words.now) _ _ c.args.now c.tell-in-Err-Unread.result c.in-Some.name.now c.in-Some.most c.in-Ok.policy c.new.result c.in-Some.ensures.some c.in-Ok.ensures.policy c.new.ensures
    (c.in-Err-Unread.ensures.part (ap Err c.in-Err-Unread.field-0-is)) c.tell-in-Err-Unread.ensures.status c.tell-in-Err-Unread.ensures.told

pub returns-in-Err-Unwritten-clause-ends : goal.returns-in-Err-Unwritten-clause-ends
returns-in-Err-Unwritten-clause-ends g c =
    out_failed (map string_bytes c.args.words.now) _ _ c.args.now c.tell-in-Err-Unwritten.result c.in-Some.name.now c.in-Some.most c.in-Ok.policy c.new.result c.in-Some.ensures.some c.in-Ok.ensures.policy c.new.ensures
    (c.in-Err-Unwritten.ensures.front (inr (ap Err c.in-Err-Unwritten.field-0-is))) (c.in-Err-Unwritten.ensures.cause (ap Err c.in-Err-Unwritten.field-0-is))
    c.tell-in-Err-Unwritten.ensures.status c.tell-in-Err-Unwritten.ensures.told

pub returns-clause-ends : goal.returns-clause-ends
returns-clause-ends g c =
    memory_failed (map string_bytes c.args.words.now) _ _ c.args.now c.tell-in-Err-Memory.result c.in-Some.name.now c.in-Some.most c.in-Ok.policy c.new.result c.in-Some.ensures.some c.in-Ok.ensures.policy c.new.ensures
    (c.in-Err-Memory.ensures.front (inl (ap Err c.in-Err-Memory.field-0-is))) c.tell-in-Err-Memory.ensures.status c.tell-in-Err-Memory.ensures.told

use Rattle.feed_core.proofs.Fronts.{at_err, front_none}
use Rattle.feed_core.proofs.Endings.{ended_short, ended_front}
use Rattle.feed_core.proofs.feed.Feed.end.Goals as goal

pub returns-then-self-clause-front : goal.returns-then-self-clause-front
returns-then-self-clause-front g c = front_none c.args.self.now.policy c.args.self.now.now _ _ _

pub returns-in-Err-clause-front : goal.returns-in-Err-clause-front
returns-in-Err-clause-front g c =
    let told = rw c.as_slice-rest.ensures.value at c.in_ok-self-inside.ensures.told in
    rw (← c.self.view_is) (ended_short _ _ _ _ _ _ c.new-told.ensures.bytes told _ _ (rw c.in-Err.ensures.same at c.stop.ensures.part))

pub returns-in_err-send-clause-front : goal.returns-in_err-send-clause-front
returns-in_err-send-clause-front g c =
    let told = rw c.as_slice-rest.ensures.value at c.in_ok-self-inside.ensures.told in
    let last = rw c.as_slice-rest.ensures.value at c.in_ok-self-inside.ensures.count in
    rw (← c.self.view_is) (at_err c.from_residual-in_err-send.result (ended_front _ _ _ _ _ _ c.new-told.ensures.bytes told _ _ _ _ last c.in_default.ensures.told c.in_err-send.ensures.part))

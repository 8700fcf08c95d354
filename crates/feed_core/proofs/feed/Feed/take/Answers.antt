use Rattle.std.proofs.Common.{sym, subst, ◌∙◌}
use Rattle.feed_core.specs.Feed.{FeedState, taking}
use Rattle.feed_core.specs.FeedCalls.{ToldSoFar}
use Rattle.feed_core.proofs.Endings.{taken_none, ok_holds, kept_line, told_after}
use Rattle.feed_core.proofs.feed.Feed.take.Goals as goal

pub returns-then-self-clause-front : goal.returns-then-self-clause-front
returns-then-self-clause-front g c = taken_none c.args.self.now c.args.piece.now _

pub invariant_of-self : goal.invariant_of-self
invariant_of-self g c goes_on =
    let takes = ok_holds c.answer_ended-answer.result (sym c.is_err-self-inside.ensures.value ∙ goes_on) c.answer_ended-answer.ensures.takes in
    kept_line _ _ c.args.piece.now takes.0 takes.1

pub returns-clause-nothing_held : goal.returns-clause-nothing_held
returns-clause-nothing_held g c bytes first so =
    let old = g.O.Sink.written c.args.out.now in
    let before : FeedState = taking c.self.inside.policy c.self.inside.now c.self.inside.rest.items c.self.inside.count in
    let P : FeedState → Type 0 = λ f. ToldSoFar f bytes first old in
    let was = subst P (sym (rw c.if-self.false at c.self.view_is)) so in
    told_after c.answer_ended-answer.result c.is_err-self-inside.result c.is_err-self-inside.ensures.value before c.answer_ended-answer.new.rest.items c.answer_ended-answer.new.count bytes c.args.piece.now
    first old (g.O.Sink.written c.answer_ended-answer.new.out) was c.answer_ended-answer.ensures.takes

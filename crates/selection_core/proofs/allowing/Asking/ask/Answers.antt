use Rattle.std.proofs.Common.{Option, Some, Bool, false, sym, ◌∙◌, subst, ℕ}
use Rattle.marked_tree.specs.Numbers.{has}
use Rattle.selection_core.specs.Asked.{own_seen, IsAskedOnWalk}
use Rattle.selection_core.specs.Consent.{Allows}
use Rattle.selection_core.proofs.Asking.{asked_refused}
use Rattle.selection_core.proofs.allowing.Asking.ask.Goals as goal

pub returns-then-not-test-clause-asked : goal.returns-then-not-test-clause-asked
returns-then-not-test-clause-asked g c =
    let s = has c.args.self.now.chosen.now in
    let no : Allows g.F.Fn c.args.self.now.consent.now c.args.walk.now.at false = subst (λ (b : Bool). Allows g.F.Fn c.args.self.now.consent.now c.args.walk.now.at b) c.if-not-test.true c.test.ensures in
    subst (λ (o : Option ℕ). IsAskedOnWalk g.F.Fn c.args.self.now.consent.now s (own_seen o c.args.walk.now.at) c.args.walk.now.refused (Some c.in-Some.mark)) (sym c.in-Some.is)
    (asked_refused g.F.Fn c.args.self.now.consent.now s c.in-Some.mark c.args.walk.now.at c.args.walk.now.refused (sym c.has.ensures ∙ c.if-has.true) (sym c.is_below.ensures ∙ c.if-is_below.true) no)

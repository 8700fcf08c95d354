use Rattle.std.proofs.Common.{ℕ, [], Option, None, subst}
use Rattle.marked_tree.specs.Numbers.{has}
use Rattle.marked_tree.specs.Paths.{Path, spots}
use Rattle.marked_tree.specs.View.{marked_of}
use Rattle.selection_core.specs.Asked.{seen_from, IsAskedOnWalk}
use Rattle.selection_core.proofs.Asking.{all_allowed, one_refused}
use Rattle.selection_core.proofs.allowing.allow.Goals as goal

pub returns-in-Some-clause-refused : goal.returns-in-Some-clause-refused
returns-in-Some-clause-refused g c =
    one_refused g.F.Fn c.args.consent.now (marked_of c.args.tree.now) (has c.args.chosen.now) c.requires.once c.in-Some.mark
    (subst (λ (o : Option ℕ). IsAskedOnWalk g.F.Fn c.args.consent.now (has c.args.chosen.now) (seen_from [] (spots (marked_of c.args.tree.now))) None o) c.in-Some.is
    (subst (λ (at : Path). IsAskedOnWalk g.F.Fn c.args.consent.now (has c.args.chosen.now) (seen_from at (spots (marked_of c.args.tree.now))) None c.ask_inside.new.walk.refused) c.new.ensures c.in_ok-ask_inside.ensures.asked))

pub returns-clause-allowed : goal.returns-clause-allowed
returns-clause-allowed g c =
    all_allowed g.F.Fn c.args.consent.now (marked_of c.args.tree.now) (has c.args.chosen.now)
    (subst (λ (o : Option ℕ). IsAskedOnWalk g.F.Fn c.args.consent.now (has c.args.chosen.now) (seen_from [] (spots (marked_of c.args.tree.now))) None o) c.in-None.is
    (subst (λ (at : Path). IsAskedOnWalk g.F.Fn c.args.consent.now (has c.args.chosen.now) (seen_from at (spots (marked_of c.args.tree.now))) None c.ask_inside.new.walk.refused) c.new.ensures c.in_ok-ask_inside.ensures.asked))

use Rattle.holder_core.specs.Asked.{held_rules}
use Rattle.holder_core.proofs.HeldFacts.{checked_shallow, checked_unmixed}
use Rattle.marked_tree.specs.View.{marked_of}
use Rattle.wallet_core.proofs.Bests.{unanswered_all}
use Rattle.wallet_core.proofs.answering.token_parts.Goals as goal

pub returns-in_default-clause-told : goal.returns-in_default-clause-told
returns-in_default-clause-told g c marked checked s sure =
    let none = rw c.in_default.is at c.in_ok-marked.ensures.none in
    absurd (none marked checked)

pub chosen_marks-requires-clause-depth : goal.chosen_marks-requires-clause-depth
chosen_marks-requires-clause-depth g c =
    let checked = rw c.in-Some.is at c.in_ok-marked.ensures.checked in
    checked_shallow c.args.token.now (held_rules c.args.query.now.keys) (marked_of c.in-Some.marked) checked

pub chosen_marks-requires-clause-unmixed : goal.chosen_marks-requires-clause-unmixed
chosen_marks-requires-clause-unmixed g c =
    let checked = rw c.in-Some.is at c.in_ok-marked.ensures.checked in
    checked_unmixed c.args.token.now (held_rules c.args.query.now.keys) (marked_of c.in-Some.marked) checked

pub returns-clause-told : goal.returns-clause-told
returns-clause-told g c =
    let checked = rw c.in-Some.is at c.in_ok-marked.ensures.checked in
    let none = rw c.in-None.is at c.in_ok-chosen.ensures.none in
    unanswered_all g.F.Fn c.args.consent.now c.args.query.now c.args.token.now (held_rules c.args.query.now.keys) (marked_of c.in-Some.marked) checked none

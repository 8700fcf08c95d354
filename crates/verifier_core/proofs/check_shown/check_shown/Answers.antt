use Rattle.std.proofs.Common.{subst}
use Rattle.std.proofs.lemmas.Result.{IfErr-weaker, on_ok_weaker}
use Rattle.claim_tree.specs.Tree.{Tree}
use Rattle.claim_tree.specs.View.{tree_of}
use Rattle.refusals.specs.Lowest.{IsLowest, NoneFails}
use Rattle.verifier_core.specs.Verdict.{HolderFails, FailsFor}
use Rattle.verifier_core.specs.Check.{ShownFails}
use Rattle.verifier_core.proofs.CheckSteps.{on_fault}
use Rattle.verifier_core.proofs.Verdicts.{claims_shown, holder_shown, none_shown, shown_lowest, accepted}
use Rattle.verifier_core.proofs.check_shown.check_shown.Goals as goal

pub returns-in-Err-clause-refused : goal.returns-in-Err-clause-refused
returns-in-Err-clause-refused c text marked opened same =
    let lowest = claims_shown c.args.shown.token.now.parts (tree_of c.args.shown.payload.now) c.args.shown.hash c.args.demands.now c.args.now c.in-Err.fault c.in-Err.ensures.lowest in
    shown_lowest text c.args.demands.now c.args.now c.args.shown.token.now opened.is_token opened.sent marked opened.checked c.args.shown.hash opened.hash_is c.in-Err.fault
    (subst (λ (t : Tree). IsLowest (ShownFails c.args.shown.token.now.parts t c.args.shown.hash c.args.demands.now c.args.now) c.in-Err.fault) same lowest)

pub returns-clause-accepted : goal.returns-clause-accepted
returns-clause-accepted c text marked opened same =
    on_ok_weaker c.check_holder.result
    (λ none.
    accepted text c.args.demands.now c.args.now c.args.shown.token.now opened.is_token opened.sent marked opened.checked c.args.shown.hash opened.hash_is
    (subst (λ (t : Tree). NoneFails (ShownFails c.args.shown.token.now.parts t c.args.shown.hash c.args.demands.now c.args.now)) same
    (none_shown c.args.shown.token.now.parts (tree_of c.args.shown.payload.now) c.args.shown.hash c.args.demands.now c.args.now c.in_default.ensures.passes none)))
    c.check_holder.ensures.passes

pub returns-clause-refused : goal.returns-clause-refused
returns-clause-refused c text marked opened same =
    IfErr-weaker c.check_holder.result _ _
    (λ e. on_fault e (IsLowest (HolderFails c.args.shown.token.now.parts (tree_of c.args.shown.payload.now) c.args.shown.hash c.args.demands.now c.args.now)) (IsLowest (FailsFor text c.args.demands.now c.args.now))
    (λ fault l.
    let lowest = holder_shown c.args.shown.token.now.parts (tree_of c.args.shown.payload.now) c.args.shown.hash c.args.demands.now c.args.now c.in_default.ensures.passes fault l in
    shown_lowest text c.args.demands.now c.args.now c.args.shown.token.now opened.is_token opened.sent marked opened.checked c.args.shown.hash opened.hash_is fault
    (subst (λ (t : Tree). IsLowest (ShownFails c.args.shown.token.now.parts t c.args.shown.hash c.args.demands.now c.args.now) fault) same lowest)))
    c.check_holder.ensures.refused

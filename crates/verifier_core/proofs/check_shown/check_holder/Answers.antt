use Rattle.std.proofs.Common.{sym, ap, subst, ◌∙◌}
use Rattle.std.specs.Option.{option_map}
use Rattle.json_form.specs.declared.token.Token.{Token}
use Rattle.claim_tree.specs.Tree.{Text}
use Rattle.claim_tree.specs.View.{tree_of}
use Rattle.compact_form.specs.Compact.{hashed}
use Rattle.refusals.specs.Lowest.{IsLowest}
use Rattle.refusals.specs.Faults.{unplaced}
use Rattle.compact_form.specs.Views.{jwt_of}
use Rattle.key_binding.specs.Judged.{judged}
use Rattle.key_binding.specs.JudgedSteps.{rules_seen}
use Rattle.key_binding.specs.BindingConditions.{BindingFails}
use Rattle.key_binding.specs.BindingCalls.{IsLowestBinding, OnBoundFails}
use Rattle.verifier_core.specs.Verdict.{Demands, HolderFails}
use Rattle.verifier_core.specs.Check.{OnFault}
use Rattle.verifier_core.proofs.Verdicts.{holder_lowest}
use Rattle.verifier_core.proofs.check_shown.check_holder.Goals as goal

pub returns-in-Err-Fails-clause-refused : goal.returns-in-Err-Fails-clause-refused
returns-in-Err-Fails-clause-refused c =
    let parts = c.args.shown.token.now.parts in
    let payload = tree_of c.args.shown.payload.now in
    let demands = c.args.demands.now in
    let hash = c.args.shown.hash in
    let token = jwt_of c.in-Some-binding.sent in
    let rules = rules_seen c.in-Some.rules in
    let fault = unplaced c.in-Err-Fails.condition in
    let told = subst (λ e. OnBoundFails e (IsLowestBinding (judged token payload rules c.demands.inside.skew hash c.hashed.result.now c.args.now))) c.in-Err-Fails.field-0-is c.in-Err-Fails.ensures.refused in
    let of_text = subst (λ (text : Text). IsLowest (BindingFails (judged token payload rules c.demands.inside.skew hash text c.args.now)) fault) c.hashed.ensures told in
    let lowest = subst (λ (d : Demands). IsLowest (BindingFails (judged token payload rules d.skew hash (hashed parts) c.args.now)) fault) c.demands.view_is of_text in
    let asked = ap (λ (d : Demands). d.binding) (sym c.demands.view_is) ∙ ap (option_map rules_seen) c.in-Some.is in
    let sent = sym (c.binding.ensures ∙ ap (λ (t : Token). t.parts.binding) c.view.ensures) ∙ ap (option_map jwt_of) c.in-Some-binding.is in
    subst (λ e. OnFault e (IsLowest (HolderFails parts payload hash demands c.args.now))) (sym c.fails.ensures) (holder_lowest parts payload hash demands c.args.now rules token asked sent fault lowest)

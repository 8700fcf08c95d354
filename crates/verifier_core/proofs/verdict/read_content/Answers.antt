use Rattle.std.proofs.Common.{refl, sym, ap, subst}
use Rattle.std.proofs.lemmas.Bool.{false≢true}
use Rattle.std.proofs.lemmas.Result.{IfErr-weaker}
use Rattle.refusals.specs.Lowest.{IsLowest}
use Rattle.json_form.specs.declared.token.Token.{Token}
use Rattle.verifier_core.specs.Check.{OnFault}
use Rattle.verifier_core.specs.Verdict.{Rules, Demands, TokenFails, FailsFor, IsBindingMissing}
use Rattle.verifier_core.proofs.Verdicts.{missing_lowest}
use Rattle.verifier_core.proofs.Contents.{token_refused}
use Rattle.verifier_core.proofs.verdict.read_content.Goals as goal

pub returns-then-is_binding_missing-clause-refused : goal.returns-then-is_binding_missing-clause-refused
returns-then-is_binding_missing-clause-refused c text now is =
    let missing = subst (λ (t : Token). IsBindingMissing c.args.demands.now t.parts) c.view-view.ensures (c.if-is_binding_missing.ensures.0 refl) in
    subst (λ e. OnFault e (IsLowest (FailsFor text c.args.demands.now now))) (sym c.fails.ensures) (missing_lowest text c.args.demands.now now c.args.token.now is missing)

pub returns-clause-refused : goal.returns-clause-refused
returns-clause-refused c text now is =
    let sent : IsBindingMissing c.args.demands.now c.args.token.now.parts → ⊥ = λ missing. false≢true (c.if-is_binding_missing.ensures.1 (subst (λ (t : Token). IsBindingMissing c.args.demands.now t.parts) (sym c.view-view.ensures) missing)) in
    IfErr-weaker c.read.result _ _
    (λ e failed.
    token_refused text c.args.demands.now now c.args.token.now is sent e
    (subst (λ (r : Rules). OnFault e (IsLowest (TokenFails c.args.token.now r))) (ap (λ (d : Demands). d.rules) c.demands.view_is) (subst (λ (t : Token). OnFault e (IsLowest (TokenFails t c.demands.inside.rules))) c.view-view.ensures failed)))
    c.read.ensures.refused

use Rattle.std.proofs.Common.{Err, sym, ap, ◌∙◌}
use Rattle.std.proofs.lemmas.Result.{IfOk-weaker}
use Rattle.json_form.specs.declared.token.Token.{Token}
use Rattle.json_form.proofs.Tokens as tokens
use Rattle.verifier_core.proofs.Verdicts.{few}
use Rattle.holder_core.proofs.Steps.{is_bound, is_unbound}
use Rattle.wallet_core.proofs.Bests.{told_of}
use Rattle.wallet_core.proofs.Bounds.{token_within}
use Rattle.wallet_core.proofs.answering.sent_parts.Goals as goal

pub returns-in-Err-Fault-clause-told : goal.returns-in-Err-Fault-clause-told
returns-in-Err-Fault-clause-told g c token marked usable s sure =
    tokens.not_both c.args.text.now token c.in-Err-Fault.field-0-0 usable.is_token (c.in-Err-Fault.ensures.refused c.in-Err-Fault.field-0-0 (ap Err c.in-Err-Fault.field-0-is))

pub returns-then-is_some-clause-told : goal.returns-then-is_some-clause-told
returns-then-is_some-clause-told g c token marked usable s sure =
    let is = tokens.seen c.args.text.now c.view-view.result c.in-Ok.token c.view-view.ensures c.in-Ok.ensures.ok in
    let same = tokens.one c.args.text.now token c.view-view.result usable.is_token is in
    is_bound c.binding.result c.view-view.result.parts.binding c.binding.ensures (sym c.is_some.ensures ∙ c.if-is_some.true) (sym (ap (λ (t : Token). t.parts.binding) same) ∙ usable.unbound)

pub token_parts-requires-clause-few : goal.token_parts-requires-clause-few
token_parts-requires-clause-few g c = few c.args.text.now c.view-view.result (tokens.seen c.args.text.now c.view-view.result c.in-Ok.token c.view-view.ensures c.in-Ok.ensures.ok)

pub returns-clause-told : goal.returns-clause-told
returns-clause-told g c =
    let is = tokens.seen c.args.text.now c.view-view.result c.in-Ok.token c.view-view.ensures c.in-Ok.ensures.ok in
    let none = is_unbound c.binding.result c.view-view.result.parts.binding c.binding.ensures (sym c.is_some.ensures ∙ c.if-is_some.false) in
    IfOk-weaker c.token_parts.result _ _ (λ told h. told_of g.F.Fn c.args.consent.now c.args.query.now c.args.text.now c.view-view.result is none told h) c.token_parts.ensures.told

pub returns-clause-within : goal.returns-clause-within
returns-clause-within g c =
    let is = tokens.seen c.args.text.now c.view-view.result c.in-Ok.token c.view-view.ensures c.in-Ok.ensures.ok in
    token_within c.args.query.now.keys c.args.text.now c.view-view.result c.args.steps.now c.token_parts.new.steps is c.token_parts.ensures.within c.token_parts.ensures.uncounted

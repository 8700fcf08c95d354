use Rattle.std.proofs.Common.{inr, sym, ap, subst, ◌∙◌}
use Rattle.std.proofs.lemmas.Result.{IfErr-weaker}
use Rattle.json_form.specs.Token.{IsToken}
use Rattle.json_form.specs.declared.token.Token.{Token}
use Rattle.json_form.proofs.Tokens as tokens
use Rattle.holder_core.specs.Asked.{asked_by_caller, alg_asked}
use Rattle.holder_core.specs.Present.{refused}
use Rattle.holder_core.specs.ToSign.{none_good, IsIssuerAsked}
use Rattle.holder_core.proofs.AskedUncounted.{read_counted}
use Rattle.holder_core.proofs.Steps.{unread_refused, text_uncounted}
use Rattle.holder_core.proofs.SignedLater.{unread_unasked}
use Rattle.holder_core.proofs.signing.present_unsigned.Goals as goal

pub returns-in-Err-clause-asked : goal.returns-in-Err-clause-asked
returns-in-Err-clause-asked g c none = unread_unasked c.args.text.now c.args.ask.now c.in-Err.error c.in-Err.ensures.refused

pub returns-in-Err-clause-refused : goal.returns-in-Err-clause-refused
returns-in-Err-clause-refused g c =
    unread_refused g.F.Fn c.args.consent.now c.args.text.now (asked_by_caller c.args.ask.now c.args.answer) (alg_asked c.args.ask.now.binding) none_good c.args.now c.in-Err.error c.in-Err.ensures.refused

pub returns-clause-asked : goal.returns-clause-asked
returns-clause-asked g c none token is asked =
    let here = subst (IsToken c.args.text.now) (sym c.view.ensures) c.in-Ok.ensures.token in
    c.present_token.ensures.asked none (subst (IsIssuerAsked c.args.ask.now) (tokens.one c.args.text.now token c.view.result is here) asked)

pub returns-clause-refused : goal.returns-clause-refused
returns-clause-refused g c =
    let here = subst (IsToken c.args.text.now) (sym c.view.ensures) c.in-Ok.ensures.token in
    IfErr-weaker c.present_token.result _ _ (λ e h. refused c.view.result here h) c.present_token.ensures.refused

-- ---- the look-ups

pub returns-clause-counted : goal.returns-clause-counted
returns-clause-counted g c =
    let here = subst (IsToken c.args.text.now) (sym c.view.ensures) c.in-Ok.ensures.token in
    read_counted c.args.text.now c.view.result here c.args.steps.now c.present_token.new.steps c.present_token.result c.present_token.ensures.counted

pub returns-clause-within : goal.returns-clause-within
returns-clause-within g c =
    let here = subst (IsToken c.args.text.now) (sym c.view.ensures) c.in-Ok.ensures.token in
    inr (c.view.result, here, c.present_token.ensures.within)

pub returns-clause-unopened : goal.returns-clause-unopened
returns-clause-unopened g c token is bound =
    let same = tokens.one c.args.text.now token c.in-Ok.token is c.in-Ok.ensures.token in
    absurd (bound (ap (λ (t : Token). t.parts.binding) same ∙ c.in-Ok.ensures.unbound.unbound))

pub returns-clause-uncounted : goal.returns-clause-uncounted
returns-clause-uncounted g c =
    let here = subst (IsToken c.args.text.now) (sym c.view.ensures) c.in-Ok.ensures.token in
    text_uncounted c.args.text.now (asked_by_caller c.args.ask.now c.args.answer) c.view.result here c.args.steps.now c.present_token.new.steps c.present_token.ensures.uncounted

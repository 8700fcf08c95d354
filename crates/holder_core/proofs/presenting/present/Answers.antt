use Rattle.std.proofs.Common.{inr, sym, ap, subst, ◌∙◌}
use Rattle.std.proofs.lemmas.Result.{IfOk-weaker}
use Rattle.json_form.specs.declared.token.Token.{Token}
use Rattle.json_form.specs.Token.{IsToken}
use Rattle.json_form.proofs.Tokens as tokens
use Rattle.holder_core.specs.Asked.{asked_by}
use Rattle.holder_core.proofs.Steps.{unread_refused, text_answered, text_uncounted}
use Rattle.holder_core.proofs.presenting.present.Goals as goal

pub returns-in-Err-clause-refused : goal.returns-in-Err-clause-refused
returns-in-Err-clause-refused g c =
    unread_refused g.F.Fn c.args.consent.now c.args.text.now (asked_by c.args.ask.now) (g.S.Signer.alg_name_of c.args.signer.now) (g.S.Signatures.good c.args.signer.now) c.args.now c.in-Err.error c.in-Err.ensures.refused

pub returns-clause-presented : goal.returns-clause-presented
returns-clause-presented g c = (text_answered g.F.Fn c.args.consent.now c.args.text.now c.view.result (subst (IsToken c.args.text.now) (sym c.view.ensures) c.in-Ok.ensures.token) (asked_by c.args.ask.now) (g.S.Signer.alg_name_of c.args.signer.now) (g.S.Signatures.good c.args.signer.now) c.args.now c.present_token.result c.present_token.ensures.answer).0

pub returns-clause-refused : goal.returns-clause-refused
returns-clause-refused g c = (text_answered g.F.Fn c.args.consent.now c.args.text.now c.view.result (subst (IsToken c.args.text.now) (sym c.view.ensures) c.in-Ok.ensures.token) (asked_by c.args.ask.now) (g.S.Signer.alg_name_of c.args.signer.now) (g.S.Signatures.good c.args.signer.now) c.args.now c.present_token.result c.present_token.ensures.answer).1

pub returns-clause-counted : goal.returns-clause-counted
returns-clause-counted g c =
    let is = subst (IsToken c.args.text.now) (sym c.view.ensures) c.in-Ok.ensures.token in
    IfOk-weaker c.present_token.result _ _ (λ answer h. (c.view.result, is, h)) c.present_token.ensures.counted

pub returns-clause-within : goal.returns-clause-within
returns-clause-within g c =
    let is = subst (IsToken c.args.text.now) (sym c.view.ensures) c.in-Ok.ensures.token in
    inr (c.view.result, is, c.present_token.ensures.within)

pub returns-clause-unopened : goal.returns-clause-unopened
returns-clause-unopened g c token is bound =
    let same = tokens.one c.args.text.now token c.in-Ok.token is c.in-Ok.ensures.token in
    absurd (bound (ap (λ (t : Token). t.parts.binding) same ∙ c.in-Ok.ensures.unbound.unbound))

pub returns-clause-uncounted : goal.returns-clause-uncounted
returns-clause-uncounted g c =
    let is = subst (IsToken c.args.text.now) (sym c.view.ensures) c.in-Ok.ensures.token in
    text_uncounted c.args.text.now (asked_by c.args.ask.now) c.view.result is c.args.steps.now c.present_token.new.steps c.present_token.ensures.uncounted

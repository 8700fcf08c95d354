use Rattle.std.proofs.Common.{subst}
use Rattle.std.proofs.lemmas.Result.{IfErr-weaker}
use Rattle.refusals.specs.Lowest.{IsLowest}
use Rattle.verifier_core.specs.Check.{IsUncounted}
use Rattle.verifier_core.specs.Verdict.{TokenFails}
use Rattle.holder_core.specs.Asked.{Asked, asked_by_caller, alg_asked}
use Rattle.holder_core.specs.PresentCalls.{OnTokenFault}
use Rattle.holder_core.specs.ToSign.{none_good}
use Rattle.holder_core.proofs.AskedUncounted.{asks_unopened, asks_uncounted}
use Rattle.holder_core.proofs.SignedLater.{refused_as, refused_fault, same_refused}
use Rattle.holder_core.proofs.signing.present_token.Goals as goal

pub ask_or_refuse-requires-clause-lowest : goal.ask_or_refuse-requires-clause-lowest
ask_or_refuse-requires-clause-lowest g c =
    let token = c.args.token.now in
    let error = c.in-Err.error in
    subst (λ (a : Asked). OnTokenFault error (IsLowest (TokenFails token a.rules))) c.by_caller-asked.ensures
    (refused_fault g.F.Fn c.args.consent.now token c.by_caller-asked.result c.holder_alg.result.now none_good c.args.now error c.in-Err.ensures.refused)

pub returns-in-Err-clause-refused : goal.returns-in-Err-clause-refused
returns-in-Err-clause-refused g c =
    let token = c.args.token.now in
    let ask = asked_by_caller c.args.ask.now c.args.answer in
    let alg = alg_asked c.args.ask.now.binding in
    let refused = refused_as g.F.Fn c.args.consent.now token c.by_caller-asked.result ask c.by_caller-asked.ensures c.holder_alg.result.now alg c.holder_alg.ensures.same c.args.now c.in-Err.error c.in-Err.ensures.refused in
    IfErr-weaker c.ask_or_refuse.result _ _ (same_refused g.F.Fn c.args.consent.now token ask alg none_good c.args.now c.in-Err.error refused) c.ask_or_refuse.ensures.same

-- ---- the look-ups

pub returns-in-Err-clause-counted : goal.returns-in-Err-clause-counted
returns-in-Err-clause-counted g c = asks_unopened c.args.token.now c.args.ask.now c.args.answer _ c.ask_or_refuse.result c.ask_or_refuse.ensures.asks

pub returns-in-Err-clause-none_yet : goal.returns-in-Err-clause-none_yet
returns-in-Err-clause-none_yet g c =
    let token = c.args.token.now in
    let old = c.args.steps.now in
    let new = c.unsigned_parts.new.steps in
    let none = subst (λ (a : Asked). IsUncounted (TokenFails token a.rules) old new) c.by_caller-asked.ensures c.in-Err.ensures.uncounted in
    asks_uncounted token c.args.ask.now c.args.answer old new none c.ask_or_refuse.result c.ask_or_refuse.ensures.asks

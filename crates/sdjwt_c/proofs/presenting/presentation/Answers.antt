-- What is presented under the places that are kept is so under those of the order.
use Rattle.std.proofs.Common.{List, subst, ap}
use Rattle.claim_tree.specs.Tree.{Text}
use Rattle.selection_core.specs.Never.{Judges, never_rule}
use Rattle.selection_core.proofs.NeverShown.{judges_too}
use Rattle.holder_core.specs.Asked.{asked_by_caller, alg_asked}
use Rattle.sdjwt_c.proofs.Presentings.{to_sign_by, alone_by, not_sent_by, never_signs, asks_unsaid}
use Rattle.sdjwt_c.proofs.presenting.presentation.Goals as goal

pub returns-clause-to_sign : goal.returns-clause-to_sign
returns-clause-to_sign c =
    let list = ap (λ x. x.0.now) c.new-consent.ensures.rule in
    let kept = c.in_ok-never.never in
    let same = c.in_ok-never.ensures.same in
    to_sign_by c.args.token.now (asked_by_caller c.args.order.ask c.args.word) (alg_asked c.args.order.ask.binding) c.args.now c.present_unsigned.result c.present_unsigned.ensures.to_sign never_rule c.args.order.never (λ at b h. record { shown = h.shown; shows = h.shows; says = record { met = judges_too kept c.args.order.never h.shown.now b (same h.shown.now) (subst (λ (paths : List (List Text)). Judges paths h.shown.now b) list h.says.met) } })

pub returns-clause-alone : goal.returns-clause-alone
returns-clause-alone c =
    let list = ap (λ x. x.0.now) c.new-consent.ensures.rule in
    let kept = c.in_ok-never.never in
    let same = c.in_ok-never.ensures.same in
    alone_by c.args.token.now (asked_by_caller c.args.order.ask c.args.word) (alg_asked c.args.order.ask.binding) c.args.now c.present_unsigned.result c.present_unsigned.ensures.presented never_rule c.args.order.never (λ at b h. record { shown = h.shown; shows = h.shows; says = record { met = judges_too kept c.args.order.never h.shown.now b (same h.shown.now) (subst (λ (paths : List (List Text)). Judges paths h.shown.now b) list h.says.met) } })

pub returns-clause-refused : goal.returns-clause-refused
returns-clause-refused c =
    let list = ap (λ x. x.0.now) c.new-consent.ensures.rule in
    let kept = c.in_ok-never.never in
    let same = c.in_ok-never.ensures.same in
    not_sent_by c.args.token.now (asked_by_caller c.args.order.ask c.args.word) (alg_asked c.args.order.ask.binding) c.args.now c.present_unsigned.result c.present_unsigned.ensures.refused never_rule c.args.order.never (λ at b h. record { shown = h.shown; shows = h.shows; says = record { met = judges_too kept c.args.order.never h.shown.now b (same h.shown.now) (subst (λ (paths : List (List Text)). Judges paths h.shown.now b) list h.says.met) } })

pub returns-clause-no_signer : goal.returns-clause-no_signer
returns-clause-no_signer c = never_signs c.present_unsigned.result c.present_unsigned.ensures.no_signer

pub returns-clause-said_all : goal.returns-clause-said_all
returns-clause-said_all c = asks_unsaid c.args.order c.args.token.now c.args.word c.present_unsigned.result c.present_unsigned.ensures.asked

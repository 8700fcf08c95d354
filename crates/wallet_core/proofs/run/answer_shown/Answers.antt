use Rattle.std.proofs.Common.{List, subst, ap}
use Rattle.marked_tree.specs.Paths.{Path}
use Rattle.selection_core.specs.Never.{Judges, never_rule}
use Rattle.selection_core.proofs.NeverShown.{never_decided, judges_too}
use Rattle.wallet_core.proofs.Carried.{picked_by, fewest_by, none_by}
use Rattle.wallet_core.proofs.run.answer_shown.Goals as goal

pub returns-clause-picked : goal.returns-clause-picked
returns-clause-picked c =
    let list = ap (λ x. x.0.now) c.new-consent.ensures.rule in
    let kept = c.in_ok-never.never in
    let same = c.in_ok-never.ensures.same in
    picked_by c.args.held.now c.args.query.now c.answer.result c.answer.ensures.picked never_rule c.args.never (λ at b h. record { shown = h.shown; shows = h.shows; says = record { met = judges_too kept c.args.never h.shown.now b (same h.shown.now) (subst (λ (paths : List Path). Judges paths h.shown.now b) list h.says.met) } }) (never_decided c.args.never)

pub returns-clause-fewest : goal.returns-clause-fewest
returns-clause-fewest c =
    let list = ap (λ x. x.0.now) c.new-consent.ensures.rule in
    let kept = c.in_ok-never.never in
    let same = c.in_ok-never.ensures.same in
    fewest_by c.args.held.now c.args.query.now c.answer.result c.answer.ensures.fewest never_rule c.args.never (λ at b h. record { shown = h.shown; shows = h.shows; says = record { met = judges_too kept c.args.never h.shown.now b (same h.shown.now) (subst (λ (paths : List Path). Judges paths h.shown.now b) list h.says.met) } })

pub returns-clause-none : goal.returns-clause-none
returns-clause-none c is =
    let list = ap (λ x. x.0.now) c.new-consent.ensures.rule in
    let kept = c.in_ok-never.never in
    let same = c.in_ok-never.ensures.same in
    none_by c.args.held.now c.args.query.now (c.answer.ensures.none is) never_rule c.args.never (λ at b h. record { shown = h.shown; shows = h.shows; says = record { met = judges_too kept c.args.never h.shown.now b (same h.shown.now) (subst (λ (paths : List Path). Judges paths h.shown.now b) list h.says.met) } })

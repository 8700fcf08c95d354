use Rattle.std.proofs.Common.{◌≡◌, [], length, rules, ap, arith}
use Rattle.std.proofs.lemmas.Result.{IfOk-weaker}
use Rattle.issuer_core.specs.Order.{order_of}
use Rattle.issuer_core.specs.Seed.{maker_of}
use Rattle.issuer_core.proofs.NothingHidden.{nothing_laid}
use Rattle.issuer_core.proofs.laying.lay_order.Goals as goal

pub returns-then-hides_nothing-clause-laid : goal.returns-then-hides_nothing-clause-laid
returns-then-hides_nothing-clause-laid c =
    let shown : c.args.order.hide ≡ [] = search rules in
    let bare : c.args.order.decoys ≡ [] = search rules in
    let all = nothing_laid (maker_of c.args.seed.now) (order_of c.args.order) shown bare in
    IfOk-weaker c.lay_unhidden.result _ _ (λ l h. rw (h.0, h.1, h.2) all) c.lay_unhidden.ensures

pub returns-then-hides_nothing-clause-few : goal.returns-then-hides_nothing-clause-few
returns-then-hides_nothing-clause-few c = IfOk-weaker c.lay_unhidden.result _ _ (λ l h. let none = ap length h.1 in omega (arith, none)) c.lay_unhidden.ensures

use Rattle.std.proofs.Common.{IfErr, ap, subst, arith}
use Rattle.claim_tree.specs.Tree.{depth}
use Rattle.issuer_core.specs.Order.{Order}
use Rattle.hmac_sign.specs.Hmac.{AlgKey}
use Rattle.sdjwt_cli.specs.Generated.{generated, generated_seed}
use Rattle.sdjwt_cli.specs.Issuing.{TellsRefusal}
use Rattle.cli_parts.specs.Stops.{OnRefused}
use Rattle.sdjwt_cli.proofs.GeneratedOrder.{shallow}
use Rattle.sdjwt_cli.proofs.summary.issue_order.Goals as goal

pub issue_parts-requires : goal.issue_parts-requires
issue_parts-requires c =
    let same = ap (λ (o : Order). depth o.payload) c.in_ok-order.ensures in
    let low = shallow c.args.count in
    record { depth = omega (arith, same, low) }

pub returns-clause-refuses : goal.returns-clause-refuses
returns-clause-refuses c =
    let by_order = subst (λ (o : Order). IfErr c.issue_parts.result (λ stop. OnRefused stop (TellsRefusal generated_seed o c.key.result))) c.in_ok-order.ensures c.issue_parts.ensures.refuses in
    subst (λ (k : AlgKey). IfErr c.issue_parts.result (λ stop. OnRefused stop (TellsRefusal generated_seed (generated c.args.count) k))) c.key.ensures by_order

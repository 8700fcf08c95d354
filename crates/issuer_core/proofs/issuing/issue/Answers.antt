use Rattle.std.proofs.Common.{sym, subst}
use Rattle.std.specs.Prelude.{IfOk, IfErr, ◌≤◌}
use Rattle.claim_tree.specs.Tree.{depth}
use Rattle.issuer_core.specs.Order.{Order}
use Rattle.issuer_core.specs.Seed.{maker_of}
use Rattle.issuer_core.specs.Written.{IsIssued, IsLaidOut}
use Rattle.issuer_core.specs.GoodOrder.{IsWritable}
use Rattle.issuer_core.specs.Issue.{HasNoClash}
use Rattle.issuer_core.specs.IssueCalls.{IsNotIssued}
use Rattle.refusals.specs.Lowest.{NoneApplies}
use Rattle.issuer_core.specs.OrderRefusals.{AppliesToOrder}
use Rattle.issuer_core.proofs.issuing.issue.Goals as goal

pub issue_owned-requires : goal.issue_owned-requires
issue_owned-requires g c = record { depth = subst (λ (o : Order). depth o.payload ≤ 127) (sym c.in_ok-order.ensures) c.requires.depth }

pub returns-clause-issued : goal.returns-clause-issued
returns-clause-issued g c = subst (λ o. IfOk c.issue_owned.result (IsIssued (maker_of c.args.seed.now) o (g.S.Signer.alg_name_of c.args.signer.now) (g.S.Signatures.good c.args.signer.now))) c.in_ok-order.ensures c.issue_owned.ensures.issued

pub returns-clause-laid : goal.returns-clause-laid
returns-clause-laid g c = subst (λ o. IfOk c.issue_owned.result (IsLaidOut (maker_of c.args.seed.now) o (g.S.Signer.alg_name_of c.args.signer.now) (g.S.Signatures.good c.args.signer.now))) c.in_ok-order.ensures c.issue_owned.ensures.laid

pub returns-clause-passes : goal.returns-clause-passes
returns-clause-passes g c = subst (λ o. IfOk c.issue_owned.result (λ _. NoneApplies (AppliesToOrder o))) c.in_ok-order.ensures c.issue_owned.ensures.passes

pub returns-clause-writable : goal.returns-clause-writable
returns-clause-writable g c = subst (λ o. IfOk c.issue_owned.result (λ _. IsWritable o)) c.in_ok-order.ensures c.issue_owned.ensures.writable

pub returns-clause-differ : goal.returns-clause-differ
returns-clause-differ g c = subst (λ o. IfOk c.issue_owned.result (λ _. HasNoClash (maker_of c.args.seed.now) o)) c.in_ok-order.ensures c.issue_owned.ensures.differ

pub returns-clause-refused : goal.returns-clause-refused
returns-clause-refused g c = subst (λ o. IfErr c.issue_owned.result (IsNotIssued (maker_of c.args.seed.now) o (g.S.Signer.alg_name_of c.args.signer.now) (g.S.Signatures.good c.args.signer.now))) c.in_ok-order.ensures c.issue_owned.ensures.refused

use Rattle.std.proofs.Common.{subst, ap, sym, ◌∙◌}
use Rattle.std.proofs.lemmas.Result.{IfOk-weaker}
use Rattle.marked_tree.specs.Marked.{strip}
use Rattle.verifier_core.specs.Verdict.{Demands, IsAcceptedFor, demands_of}
use Rattle.verifier_core.proofs.Bounds.{accepted_bounded}
use Rattle.verifier_core.proofs.verdict.verify.Goals as goal

pub returns-clause-accepted : goal.returns-clause-accepted
returns-clause-accepted c = IfOk-weaker c.judged.result _ _ (λ a is. subst (IsAcceptedFor c.args.text.now (demands_of c.args.policy.now) c.args.now) (sym is.2.0) (subst (λ (d : Demands). IsAcceptedFor c.args.text.now d c.args.now is.0) c.demands.ensures is.1)) c.judged.ensures.accepted

pub returns-clause-payload : goal.returns-clause-payload
returns-clause-payload c = IfOk-weaker c.judged.result _ _ (λ a is. is.2.1 ∙ ap strip (sym is.2.0)) c.judged.ensures.accepted

pub returns-clause-bounded : goal.returns-clause-bounded
returns-clause-bounded c =
    IfOk-weaker c.judged.result _ _ (λ a is. accepted_bounded c.args.text.now c.demands.result c.args.now is.0 _ is.1 is.2.1) c.judged.ensures.accepted

use Rattle.std.proofs.lemmas.Result.{IfOk-weaker}
use Rattle.verifier_core.proofs.Bounds.{accepted_bounded}
use Rattle.verifier_core.proofs.verdict.verify_payload_with.Goals as goal

pub returns-clause-bounded : goal.returns-clause-bounded
returns-clause-bounded c =
    IfOk-weaker c.judged.result _ _ (λ payload is. accepted_bounded c.args.text.now c.demands.result c.args.now is.0 _ is.1 is.2) c.judged.ensures.accepted

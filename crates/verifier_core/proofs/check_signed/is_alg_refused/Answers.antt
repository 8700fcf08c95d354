use Rattle.std.proofs.Common.{sym, subst}
use Rattle.verifier_core.specs.Check.{TestTells}
use Rattle.verifier_core.specs.Seen.{issuers_of}
use Rattle.verifier_core.specs.Verdict.{IsAlgRefusedBy}
use Rattle.verifier_core.proofs.CheckTests.{told}
use Rattle.verifier_core.proofs.check_signed.is_alg_refused.Goals as goal

pub returns-in-Caller : goal.returns-in-Caller
returns-in-Caller c = subst (λ issuers. TestTells c.refuses.result (IsAlgRefusedBy (issuers_of issuers) c.args.alg.now)) (sym c.in-Caller.is) (told c.refuses.result _ c.refuses.ensures)

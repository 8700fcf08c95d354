use Rattle.std.proofs.Common.{◌↔◌, IsTrue, sym, subst}
use Rattle.key_binding.specs.JudgedSteps.{IsAlgRefusedBy}
use Rattle.key_binding.proofs.judging.is_alg_refused.Goals as goal

pub returns-in-Caller : goal.returns-in-Caller
returns-in-Caller c = subst (λ holder. IsTrue c.refuses.result ↔ IsAlgRefusedBy holder c.args.alg.now) (sym c.in-Caller.is) c.refuses.ensures

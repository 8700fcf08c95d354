use Rattle.std.proofs.Common.{IfOk, sym, subst}
use Rattle.compact_form.specs.Views.{jwt_of}
use Rattle.key_binding.specs.CallerSeen.{Tells}
use Rattle.verifier_core.specs.Seen.{issuers_of}
use Rattle.verifier_core.specs.Verdict.{IsUnknownBy, IsBadBy}
use Rattle.verifier_core.proofs.check_signed.answer_on.Goals as goal

pub returns-in-Keys : goal.returns-in-Keys
returns-in-Keys c =
    subst (λ issuers. IfOk c.answer_of_keys.result (λ answer. Tells answer (IsUnknownBy (issuers_of issuers) c.args.header.now (jwt_of c.args.signed)) (IsBadBy (issuers_of issuers) c.args.header.now (jwt_of c.args.signed)))) (sym c.in-Keys.is)
    (c.answer_of_keys.ensures c.in-Keys.algs.now)

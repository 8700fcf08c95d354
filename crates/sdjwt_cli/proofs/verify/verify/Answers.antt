-- Under the policy that the file says.
use Rattle.cli_parts.proofs.Stopped.{of_text, of_refused}
use Rattle.sdjwt_cli.specs.Verify.{Verifies, DoesNotVerify, VerifiesUnder, DoesNotVerifyUnder}
use Rattle.sdjwt_cli.proofs.verify.verify.Goals as goal

pub returns-clause-verifies : goal.returns-clause-verifies
returns-clause-verifies c =
    let policy = c.in_ok-policy.policy in
    of_text (VerifiesUnder policy c.args.token_file.now c.args.now) (Verifies c.args.policy_file.now c.args.token_file.now c.args.now)
    (λ text verifies. record { policy = policy; is_policy = c.in_ok-policy.ensures.policy; verifies = verifies })
    c.verify_under.result c.verify_under.ensures.verifies

pub returns-clause-refuses : goal.returns-clause-refuses
returns-clause-refuses c =
    let policy = c.in_ok-policy.policy in
    of_refused (DoesNotVerifyUnder policy c.args.token_file.now c.args.now) (DoesNotVerify c.args.policy_file.now c.args.token_file.now c.args.now)
    (λ text refuses. record { policy = policy; is_policy = c.in_ok-policy.ensures.policy; refuses = refuses })
    c.verify_under.result c.verify_under.ensures.refuses

use Rattle.sdjwt_cli.proofs.SuitedFiles.{order_text, present_text, policy_text}
use Rattle.command_tests.proofs.WorkedFiles.{suits_read, short_read}
use Rattle.command_tests.proofs.end_to_end_tests.a_verifier_finds_the_payload_without_what_is_kept_back.Goals as goal

pub found-requires-clause-short : goal.found-requires-clause-short
found-requires-clause-short g c =
    short_read _ _ _ order_text present_text policy_text c.in_ok-file.file c.in_ok-file.ensures.said c.in_ok-said.said c.in_ok-said.ensures.said c.in_ok-policy.policy c.in_ok-policy.ensures.said

pub found-requires-clause-suits : goal.found-requires-clause-suits
found-requires-clause-suits g c =
    suits_read _ _ _ order_text present_text policy_text c.in_ok-file.file c.in_ok-file.ensures.said c.in_ok-said.said c.in_ok-said.ensures.said c.in_ok-policy.policy c.in_ok-policy.ensures.said

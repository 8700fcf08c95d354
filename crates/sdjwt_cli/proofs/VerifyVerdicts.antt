-- The command `verify` has one verdict over its files.
use Rattle.std.proofs.Common.{◌≡◌, ℕ, List, ap, ◌∙◌, sym, subst}
use Rattle.claim_tree.specs.JsonText.{json_text}
use Rattle.marked_tree.specs.Marked.{Marked, strip}
use Rattle.verifier_core.specs.Verdict.{Fails, IsAccepted, demands_of}
use Rattle.refusals.specs.Lowest.{IsLowest}
use Rattle.verifier_core.specs.declared.policy.Policy.{Policy}
use Rattle.verifier_core.proofs.Policies as policies
use Rattle.verifier_core.proofs.OneVerdict as verdicts
use Rattle.cli_parts.specs.Lines.{line, refusal}
use Rattle.sdjwt_cli.specs.Verify.{Verifies, DoesNotVerify}
use Rattle.cli_parts.specs.Replies.{Reply}
use Rattle.sdjwt_cli.specs.Answers.{VerifyAnswers}
use Rattle.verifier_core.specs.PolicyFile.{IsPolicyFile, IsPolicyFileRefused}
use Rattle.cli_parts.proofs.OneReply.{one_reply_of_file}

printed : (policy token : List ℕ) (now : ℕ) (a b : List ℕ) → Verifies policy token now a → Verifies policy token now b → a ≡ b
printed policy token now a b g h =
    let same : g.policy ≡ h.policy = policies.one_policy policy g.policy h.policy g.is_policy h.is_policy in
    let marked = g.verifies.marked in let other = h.verifies.marked in
    let accepted : IsAccepted token h.policy now marked = subst (λ (p : Policy). IsAccepted token p now marked) same g.verifies.accepted in
    g.verifies.line_is ∙ (ap (λ (m : Marked). line (json_text (strip m))) (verdicts.one_accepted token (demands_of h.policy) now marked other accepted h.verifies.accepted) ∙ sym h.verifies.line_is)

refused : (policy token : List ℕ) (now : ℕ) (a b : List ℕ) → DoesNotVerify policy token now a → DoesNotVerify policy token now b → a ≡ b
refused policy token now a b g h =
    let same : g.policy ≡ h.policy = policies.one_policy policy g.policy h.policy g.is_policy h.is_policy in
    let fault = g.refuses.fault in let other = h.refuses.fault in
    let lowest : IsLowest (Fails token h.policy now) fault = subst (λ (p : Policy). IsLowest (Fails token p now) fault) same g.refuses.lowest in
    g.refuses.line_is ∙ (ap refusal (verdicts.one_lowest token (demands_of h.policy) now fault other lowest h.refuses.lowest) ∙ sym h.refuses.line_is)

printed_not_refused : (policy token : List ℕ) (now : ℕ) (a b : List ℕ) → Verifies policy token now a → DoesNotVerify policy token now b → ⊥
printed_not_refused policy token now a b g h =
    let same : g.policy ≡ h.policy = policies.one_policy policy g.policy h.policy g.is_policy h.is_policy in
    let marked = g.verifies.marked in
    let accepted : IsAccepted token h.policy now marked = subst (λ (p : Policy). IsAccepted token p now marked) same g.verifies.accepted in
    verdicts.accepted_not_refused token (demands_of h.policy) now marked h.refuses.fault accepted h.refuses.lowest

pub one_verify : (policy token : List ℕ) (now : ℕ) (v w : Reply) → VerifyAnswers policy token now v → VerifyAnswers policy token now w → v ≡ w
one_verify policy token now =
    one_reply_of_file (IsPolicyFile policy) (IsPolicyFileRefused policy) (policies.one_fault policy) (policies.not_both policy) (Verifies policy token now) (DoesNotVerify policy token now)
    (λ a g. (g.policy, g.is_policy)) (λ a g. (g.policy, g.is_policy)) (printed policy token now) (refused policy token now) (printed_not_refused policy token now)

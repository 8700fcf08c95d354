-- The command `verify`: what it prints of a token file under a policy file, and
-- when it refuses one.
use Rattle.std.specs.Prelude.{◌≡◌, ℕ, List}
use Rattle.claim_tree.specs.JsonText.{json_text}
use Rattle.refusals.specs.declared.fault.Fault.{Fault}
use Rattle.marked_tree.specs.Marked.{Marked, strip}
use Rattle.verifier_core.specs.PolicyFile.{IsPolicyFile}
use Rattle.verifier_core.specs.Verdict.{Fails, IsAccepted}
use Rattle.refusals.specs.Lowest.{IsLowest}
use Rattle.verifier_core.specs.declared.policy.Policy.{Policy}
use Rattle.cli_parts.specs.Lines.{line, refusal}

-- the token is accepted under the policy, and this is the line of its processed payload
pub record VerifiesUnder (policy : Policy) (token_file : List ℕ) (now : ℕ) (answer : List ℕ)
    : Type 0 where
  pub marked : Marked
  pub accepted : IsAccepted token_file policy now marked
  pub line_is : answer ≡ line (json_text (strip marked))

-- the lowest condition that fails under the policy, with its line
pub record DoesNotVerifyUnder (policy : Policy) (token_file : List ℕ) (now : ℕ) (text : List ℕ)
    : Type 0 where
  pub fault : Fault
  pub lowest : IsLowest (Fails token_file policy now) fault
  pub line_is : text ≡ refusal fault

-- the same under the policy that a file says
pub record Verifies (policy_file token_file : List ℕ) (now : ℕ) (answer : List ℕ) : Type 0 where
  pub policy : Policy
  pub is_policy : IsPolicyFile policy_file policy
  pub verifies : VerifiesUnder policy token_file now answer

pub record DoesNotVerify (policy_file token_file : List ℕ) (now : ℕ) (text : List ℕ) : Type 0 where
  pub policy : Policy
  pub is_policy : IsPolicyFile policy_file policy
  pub refuses : DoesNotVerifyUnder policy token_file now text

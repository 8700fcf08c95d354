-- Not needed to believe the program's promises: the replies to a policy that is
-- to be kept, and under one that is.
use Rattle.std.specs.Prelude.{◌≡◌, ◌<◌, ◌≤◌, ℕ, List, [], length, Option, None, Some, IsSome, IsNone}
use Rattle.std.specs.Str.{IsUtf8}
use Rattle.sd_outside.specs.Limits.{binding_text_max}
use Rattle.cli_parts.specs.Replies.{Reply, Replies}
use Rattle.sdjwt_cli.specs.Verify.{VerifiesUnder, DoesNotVerifyUnder}
use Rattle.cli_parts.specs.Telling.{TellsFileFault}
use Rattle.verifier_core.specs.declared.policy.Policy.{Policy}
use Rattle.verifier_core.specs.PolicyFile.{IsPolicyFile, IsPolicyFileRefused}
use Rattle.verifier_core.specs.Nonces.{with_nonce}

-- the file says a policy, and there is no more to tell
pub record IsReadPolicy (file text : List ℕ) : Type 0 where
  pub policy : Policy
  pub is_policy : IsPolicyFile file policy
  pub empty : text ≡ []

-- it is read, or not of its form, and never refused
abbrev pub PolicyAnswers : List ℕ → Reply → Type 0
PolicyAnswers file reply =
    Replies (IsReadPolicy file) (λ _. ⊥) (TellsFileFault (IsPolicyFileRefused file)) reply

-- under a policy: the line of the processed payload, or that of the refusal
abbrev pub UnderAnswers : Policy → List ℕ → ℕ → Reply → Type 0
UnderAnswers policy token now reply =
    Replies (VerifiesUnder policy token now) (DoesNotVerifyUnder policy token now) (λ _. ⊥) reply

-- ---- the nonce of a policy

-- the policy asks for a key binding token, and the nonce is a text that is not too long
pub record TakesNonce (nonce : List ℕ) (policy : Policy) : Type 0 where
  pub binding : IsSome policy.binding
  pub utf8 : IsUtf8 nonce
  pub short : length nonce ≤ binding_text_max

-- why a handle takes no such nonce
pub data IsNotTaken (held : Option Policy) (nonce : List ℕ) : Type 0 where
  no_policy : held ≡ None → IsNotTaken held nonce
  no_binding : (policy : Policy) → held ≡ Some policy → IsNone policy.binding
      → IsNotTaken held nonce
  no_text : (IsUtf8 nonce → ⊥) → IsNotTaken held nonce
  too_long : binding_text_max < length nonce → IsNotTaken held nonce

-- by the number: the policy of the handle has this nonce, or is as it was, where the call is
-- misused or there is no memory
pub data SetsNonce (before : Option Policy) (nonce : List ℕ) (after : Option Policy) (number : ℕ)
    : Type 0 where
  set : (policy : Policy) → before ≡ Some policy → TakesNonce nonce policy
      → after ≡ Some (with_nonce policy nonce) → number ≡ 0 → SetsNonce before nonce after number
  misused : IsNotTaken before nonce → after ≡ before → number ≡ 2
      → SetsNonce before nonce after number
  no_memory : (policy : Policy) → before ≡ Some policy → TakesNonce nonce policy
      → after ≡ before → number ≡ 5 → SetsNonce before nonce after number

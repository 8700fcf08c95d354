-- What the feed writes for its lines.
use Rattle.std.specs.Prelude.{◌≡◌, ◌++◌, ℕ, List, codes}
use Rattle.std.specs.List.{AllZip, flat_map}
use Rattle.claim_tree.specs.JsonText.{json_text}
use Rattle.refusals.specs.declared.fault.Fault.{Fault}
use Rattle.refusals.specs.Lowest.{IsLowest}
use Rattle.marked_tree.specs.Marked.{Marked, strip}
use Rattle.verifier_core.specs.declared.policy.Policy.{Policy}
use Rattle.refusals.specs.RefusedText.{fault_text}
use Rattle.verifier_core.specs.Verdict.{Fails, IsAccepted}
use Rattle.cli_parts.specs.Lines.{line}

-- the token is accepted, and this tells its processed payload; or this tells
-- the lowest condition that fails
pub data TellsVerdict (policy : Policy) (now : ℕ) (token text : List ℕ) : Type 0 where
  accepts : (marked : Marked) → IsAccepted token policy now marked
      → text ≡ codes "accepted " ++ json_text (strip marked) → TellsVerdict policy now token text
  refuses : (fault : Fault) → IsLowest (Fails token policy now) fault → text ≡ fault_text fault
      → TellsVerdict policy now token text

-- the verdicts on these tokens, each on a line
pub record TellsVerdicts (policy : Policy) (now : ℕ) (tokens : List (List ℕ)) (text : List ℕ)
    : Type 0 where
  pub verdicts : List (List ℕ)
  pub each : AllZip (TellsVerdict policy now) tokens verdicts
  pub text_is : text ≡ flat_map line verdicts

-- Not needed to believe the program's promises: what the service answers of a presentation.
use Rattle.std.specs.Prelude.{◌≡◌, ℕ, Option}
use Rattle.sdjwt_lib.specs.claim_tree.Tree.{Text, Tree, get}
use Rattle.sdjwt_lib.specs.verifier_core.Verdicts.{IsAcceptedAs}
use Rattle.sdjwt_lib.specs.verifier_core.declared.policy.Policy.{Policy}

-- the text is accepted under the policy at the moment, and the claim is the
-- member of its processed payload under the name, or none
pub record IsClaim (text : Text) (policy : Policy) (now : ℕ) (name : Text) (claim : Option Tree)
    : Type 0 where
  pub payload : Tree
  pub accepted : IsAcceptedAs text policy now payload
  pub claim_is : claim ≡ get payload name

-- For private functions: what the steps of `gen` answer.
use Rattle.std.specs.Prelude.{ℕ, [], codes}
use Rattle.claim_tree.specs.Tree.{Tree}
use Rattle.claim_tree.specs.View.{tree_of}
use Rattle.claim_tree.specs.declared.tree.Tree as code
use Rattle.compact_form.specs.declared.parts.Parts.{Parts}
use Rattle.compact_form.specs.Compact.{compact}
use Rattle.hmac_sign.specs.Hmac.{IsGood}
use Rattle.holder_core.specs.Asked.{asked_by}
use Rattle.holder_core.specs.Present.{IsPresented}
use Rattle.verifier_core.specs.Check.{IsCounted}
use Rattle.verifier_core.specs.Verdict.{demands_of}
use Rattle.verifier_core.specs.Verdicts.{IsAcceptedAs}
use Rattle.sdjwt_cli.specs.Generated.{generated_key, generated_ask, generated_policy}
use Rattle.selection_core.specs.Never.{never_rule}
use Rattle.json_form.specs.Alone.{alone}
use Rattle.sdjwt_cli.specs.PresentedValues.{IsAcceptedWith, AcceptedBy}

-- what is presented of the issued parts
abbrev pub IsPresentedOf : ℕ → Parts → Parts → Type 0
IsPresentedOf n issued presented =
    IsPresented never_rule [] (compact issued) (asked_by (generated_ask n)) (codes "HS256")
    (IsGood generated_key) 0 presented

-- the parts are accepted with some claims
abbrev pub IsAcceptable : Parts → Type 0
IsAcceptable presented =
    (claims : Tree) × IsAcceptedWith presented (AcceptedBy (demands_of generated_policy) 0 claims)

-- the claims with which the parts are accepted, and how many digests were looked up
pub record IsVerified (presented : Parts) (claims : code.Tree) (look_ups : ℕ) : Type 0 where
  pub accepted : IsAcceptedAs (compact presented) generated_policy 0 (tree_of claims)
  pub counted : IsCounted (alone presented) 0 look_ups

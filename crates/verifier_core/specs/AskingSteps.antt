-- For private functions: what is judged, of what is borrowed.
use Rattle.std.specs.Prelude.{◌≡◌, ℕ, List, Result, IfOk, IfErr}
use Rattle.claim_tree.specs.View.{tree_of}
use Rattle.claim_tree.specs.declared.tree.Tree as owned
use Rattle.disclosure.specs.declared.digests.HashAlg.{HashAlg}
use Rattle.json_form.specs.Token.{IsToken}
use Rattle.json_form.specs.declared.token.Token.{Token}
use Rattle.refusals.specs.Lowest.{IsLowest}
use Rattle.refusals.specs.declared.condition.Condition.{Condition}
use Rattle.refusals.specs.declared.fault.Fault.{Fault}
use Rattle.refusals.specs.declared.fault.Place.{Place}
use Rattle.verifier_core.specs.Check.{OnFault, IsSigned}
use Rattle.verifier_core.specs.Verdict.{Demands, FailsFor, TokenFails, HasHash, IsBindingMissing}
use Rattle.verifier_core.specs.Verdicts.{IsCheckedAs}
use Rattle.verifier_core.specs.Asking.{caller_demands, WasAsked, IsAskedNext, IsJudged}
use Rattle.verifier_core.specs.declared.asking.Case.{Case}
use Rattle.verifier_core.specs.declared.asking.JudgeError.{JudgeError}
use Rattle.verifier_core.specs.declared.asking.Judgement.{Judgement}
use Rattle.verifier_core.specs.declared.token_checking.VerifyError.{VerifyError}

abbrev pub demands_in : Case → Demands
demands_in case = caller_demands case.policy.now case.binding_algs.now case.answers

abbrev pub fails_in : Case → Condition → Place → Type 0
fails_in case = FailsFor case.text.now (demands_in case) case.now

abbrev pub WasAskedIn : Case → Type 0
WasAskedIn case = WasAsked case.text.now (demands_in case) case.now case.answers

abbrev pub IsAskedNextIn : Case → Type 0
IsAskedNextIn case = IsAskedNext case.text.now (demands_in case) case.now case.answers

abbrev pub IsJudgedIn : Case → Result Judgement JudgeError → Type 0
IsJudgedIn case result = IsJudged case.text.now (demands_in case) case.now case.answers result

-- the text is this token, which passes the conditions 4 to 13, with this hash, and is then opened
-- to this payload, or refused
pub record IsTried (text : List ℕ) (demands : Demands) (token : Token) (hash : HashAlg)
    (opened : Result owned.Tree VerifyError) : Type 0 where
  pub is_token : IsToken text token
  pub sent : IsBindingMissing demands token.parts → ⊥
  pub signed : IsSigned token.parts.signed token.outer demands.rules
  pub hash_is : HasHash token hash
  pub checked : IfOk opened (λ payload. IsCheckedAs token demands.rules (tree_of payload))
  pub refused : IfErr opened (λ e. OnFault e (IsLowest (TokenFails token demands.rules)))

-- the text is this token, and the condition of this number is the lowest that fails
pub record FailsAt (case : Case) (token : Token) (number : ℕ) (fault : Fault) : Type 0 where
  pub is_token : IsToken case.text.now token
  pub lowest : IsLowest (fails_in case) fault
  pub at : fault.number ≡ number

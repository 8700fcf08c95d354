-- Not needed to believe the program's promises: conditions that keep a token from being presented.
use Rattle.claim_tree.specs.Tree.{Text}
use Rattle.refusals.specs.declared.condition.Condition.{Condition}
use Rattle.refusals.specs.declared.fault.Fault.{Fault}
use Rattle.refusals.specs.declared.fault.Place.{Place}
use Rattle.json_form.specs.Token.{IsToken}
use Rattle.json_form.specs.declared.token.Token.{Token}
use Rattle.verifier_core.specs.Verdict.{TokenFails, FileFails, Rules}
use Rattle.holder_core.specs.Asked.{Asked}
use Rattle.refusals.specs.Lowest.{IsLowest}
use Rattle.holder_core.specs.declared.errors.PresentError.{PresentError}
use Rattle.holder_core.specs.declared.errors.PresentError.TheVariants.{Memory, Token as OnCondition}

-- what fails each condition on a text that is to be presented: on the file, or
-- on the token that it is read as
pub data PresentFails (content : Text) (asked : Asked) (c : Condition) (place : Place)
    : Type 0 where
  of_file : FileFails content c place → PresentFails content asked c place
  of_token : (token : Token) → IsToken content token → TokenFails token asked.rules c place
      → PresentFails content asked c place

-- why the conditions 5 to 21 refuse a token: by the lowest that fails; want of memory says nothing
abbrev pub IsUnchecked : Token → Rules → PresentError → Type 0
IsUnchecked token rules Memory = Unit {0}
IsUnchecked token rules (OnCondition fault) = IsLowest (TokenFails token rules) fault
IsUnchecked token rules _ = ⊥

-- what is so of the fault, where a condition refuses the token
abbrev pub OnTokenFault : PresentError → (Fault → Type 0) → Type 0
OnTokenFault (OnCondition fault) P = P fault
OnTokenFault _ P = Unit {0}

-- The conditions on a token, passed one after another.
use Rattle.std.proofs.Common.{◌<◌, arith, rules}
use Rattle.refusals.specs.declared.fault.Place.{Place}
use Rattle.json_form.specs.declared.token.Token.{Token}
use Rattle.refusals.specs.declared.condition.Condition.{Condition}
use Rattle.refusals.specs.Condition.{number_of}
use Rattle.verifier_core.specs.Verdict.{Rules, TokenFails}
use Rattle.refusals.specs.Lowest.{NoneFails}
use Rattle.refusals.specs.Passing.{Passes}

-- ---- those of a token

-- a condition on a token has a number from 5 to 21
pub token_numbers : (token : Token) (rules : Rules) (c : Condition) (place : Place) → TokenFails token rules c place → (4 < number_of c) × (number_of c < 22)
token_numbers _ _ Condition.HeaderUnreadable place h = search rules
token_numbers _ _ _ place h = search rules

pub start : (token : Token) (rules : Rules) → Passes 5 (TokenFails token rules)
start token rules c place h = let n = token_numbers token rules c place h in omega (arith, n.0)

-- all of them are passed
pub finish : (token : Token) (rules : Rules) → Passes 22 (TokenFails token rules) → NoneFails (TokenFails token rules)
finish token rules passes c place h = let n = token_numbers token rules c place h in let l = passes c place h in absurd (omega (arith, l, n.1))

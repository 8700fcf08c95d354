-- Not needed to believe the program's promises: what the law against forgery says where a caller
-- checks the signatures.
use Rattle.std.specs.Prelude.{◌≡◌, ℕ, List}
use Rattle.claim_tree.specs.Tree.{Text, Tree}
use Rattle.compact_form.specs.declared.parts.Parts.{Parts}
use Rattle.json_form.specs.Token.{IsToken}
use Rattle.json_form.specs.declared.token.Token.{Token}
use Rattle.verifier_core.specs.Asking.{IsAcceptedForAs, caller_demands}
use Rattle.verifier_core.specs.declared.asking.Answers.{Answers}
use Rattle.verifier_core.specs.declared.policy.Policy.{Policy}
use Rattle.issuer_core.specs.Digests.{Maker, marked_claims}
use Rattle.issuer_core.specs.Order.{Order}
use Rattle.sdjwt_cli.specs.NoForgery.{IsChoiceOf, NoneCollides}

-- of each text that is read as a token with the signed part of these, under every policy, of every
-- caller, whatever it said of the signatures, and at every moment
abbrev pub ShowsIssuedToCaller : Maker → Order → Parts → Type 0
ShowsIssuedToCaller maker o parts =
    (text : List ℕ) (token : Token) → IsToken text token → token.parts.signed ≡ parts.signed
    → (policy : Policy) (binding_algs : List Text) (now : ℕ) (answers : Answers) (payload : Tree)
    → IsAcceptedForAs text (caller_demands policy binding_algs answers) now payload
    → NoneCollides maker o parts.disclosures token.parts.disclosures
    → IsChoiceOf (marked_claims o) parts.disclosures token.parts.disclosures payload

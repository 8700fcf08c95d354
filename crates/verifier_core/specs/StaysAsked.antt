-- Not needed to believe the program's promises: what a caller is asked stays asked for, whatever it
-- answers.
use Rattle.std.specs.Prelude.{ℕ, List}
use Rattle.claim_tree.specs.Tree.{Text, Tree}
use Rattle.key_binding.specs.declared.caller.SignatureAnswer.{SignatureAnswer}
use Rattle.verifier_core.specs.Asking.{caller_demands, AsksIssuer, AsksHolder, WasAsked}
use Rattle.verifier_core.specs.declared.asking.Answers.{Answers}
use Rattle.verifier_core.specs.declared.asking.Question.{Question}
use Rattle.verifier_core.specs.declared.policy.Policy.{Policy}

-- where the issuer's signature is asked for, it was to be known, once this is said of it
abbrev pub IssuerStaysAsked : Type 0
IssuerStaysAsked =
    (text : List ℕ) (policy : Policy) (binding_algs : List Text) (now : ℕ) (before : Answers)
    (question : Question) (answer : SignatureAnswer)
    → AsksIssuer text (caller_demands policy binding_algs before) now before question
    → WasAsked text (caller_demands policy binding_algs (Answers.Issuer answer)) now
    (Answers.Issuer answer)

-- the same of the signature of the key binding token
abbrev pub HolderStaysAsked : Type 0
HolderStaysAsked =
    (text : List ℕ) (policy : Policy) (binding_algs : List Text) (now : ℕ) (before : Answers)
    (question : Question) (payload : Tree) (answer : SignatureAnswer)
    → AsksHolder text (caller_demands policy binding_algs before) now before question payload
    → WasAsked text (caller_demands policy binding_algs (Answers.Holder answer)) now
    (Answers.Holder answer)

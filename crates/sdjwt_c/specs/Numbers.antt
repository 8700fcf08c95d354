-- Not needed to believe the program's promises: the numbers by which C names
-- the forms of a token, and what is said of signatures.
use Rattle.std.specs.Prelude.{zero, suc, ℕ, Option, None, Some, option_map}
use Rattle.key_binding.specs.declared.caller.SignatureAnswer.{SignatureAnswer}
use Rattle.sdjwt_cli.specs.declared.form.Form.{Form}
use Rattle.sdjwt_cli.specs.declared.form.Form.TheVariants.{Compact, Flat, General}
use Rattle.verifier_core.specs.declared.asking.Answers.{Answers}

abbrev pub form_numbered : ℕ → Option Form
form_numbered zero = Some Compact
form_numbered (suc zero) = Some Flat
form_numbered (suc (suc zero)) = Some General
form_numbered (suc (suc (suc n))) = None

-- what is said of a signature
abbrev pub answer_numbered : ℕ → Option SignatureAnswer
answer_numbered zero = None
answer_numbered (suc zero) = Some SignatureAnswer.Unknown
answer_numbered (suc (suc zero)) = Some SignatureAnswer.Bad
answer_numbered (suc (suc (suc zero))) = Some SignatureAnswer.Good
answer_numbered (suc (suc (suc (suc n)))) = None

-- what is said of the issuer's signature alone
abbrev pub issuer_numbered : ℕ → Option Answers
issuer_numbered zero = Some Answers.Nothing
issuer_numbered (suc n) = option_map (λ answer. Answers.Issuer answer) (answer_numbered (suc n))

-- what is said of the holder's signature, where this was said of the issuer's
abbrev pub holder_numbered : Option SignatureAnswer → ℕ → Option Answers
holder_numbered (Some SignatureAnswer.Good) holder =
    option_map (λ answer. Answers.Holder answer) (answer_numbered holder)
holder_numbered _ holder = None

-- what is said of the two signatures
abbrev pub answers_numbered : ℕ → ℕ → Option Answers
answers_numbered issuer zero = issuer_numbered issuer
answers_numbered issuer (suc n) = holder_numbered (answer_numbered issuer) (suc n)

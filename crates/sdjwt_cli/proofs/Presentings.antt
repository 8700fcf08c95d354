-- What the steps of `present` say of its files.
use Rattle.std.proofs.Common.{◌≢◌, ◌≤◌, ℕ, List, length, Result, Ok, Err, IfOk, IfErr, ap}
use Rattle.std.specs.Prelude.{IsErrOf}
use Rattle.holder_core.specs.declared.errors.PresentError.{PresentError}
use Rattle.holder_core.specs.declared.errors.PresentError.TheVariants.{SignFailed}
use Rattle.holder_core.specs.declared.present_file.PresentFile.{PresentFile}
use Rattle.holder_core.specs.PresentFile.{IsPresentFile}
use Rattle.sd_outside.specs.Limits.{compact_max}
use Rattle.compact_form.specs.declared.parts.Parts.{Parts}
use Rattle.compact_form.specs.Compact.{compact}
use Rattle.sdjwt_cli.specs.Presenting.{IsPresentedFor, IsNotPresentedFor, Presents, DoesNotPresent}
use Rattle.sdjwt_cli.specs.PresentingSteps.{IsLineOf, IsRefusalOf}

-- a signer that never fails
pub never_fails : {X : Type 0} (r : Result X PresentError) → (IsErrOf r SignFailed → ⊥) → IfErr r (λ error. error ≢ SignFailed)
never_fails (Ok x) h = tt
never_fails (Err error) h = λ is. h (ap Err is)

module _ (said : PresentFile) (token : List ℕ) (now : ℕ) where
  -- what is told of the answer
  pub presents : (presented : Result Parts PresentError) (file : List ℕ) → IsPresentFile file said → IfOk presented (IsPresentedFor said token now)
      → IfOk presented (λ parts. length (compact parts) ≤ compact_max) → (text : List ℕ) → IsLineOf presented text → Presents file token now text
  presents (Ok parts) file is_order h short text line = record { said = said; is_order = is_order; parts = parts; presented = h; short = short; line_is = line }
  presents (Err error) file is_order h short text line = absurd line

  pub refuses : (presented : Result Parts PresentError) (file : List ℕ) → IsPresentFile file said → IfErr presented (IsNotPresentedFor said token now)
      → IfErr presented (λ error. error ≢ SignFailed) → (text : List ℕ) → IsRefusalOf presented text → DoesNotPresent file token now text
  refuses (Ok parts) file is_order h signed text refusal = absurd refusal
  refuses (Err error) file is_order h signed text refusal =
      record { said = said; is_order = is_order; error = error; refused = h; memory = refusal.0; signed = signed; line_is = refusal.1 }

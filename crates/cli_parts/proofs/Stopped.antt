-- What holds of the line of a stop, by the fault that it tells.
use Rattle.std.proofs.Common.{◌≡◌, ℕ, List, Result, Ok, Err, String, Global, IfOk, IfErr, string_bytes, refl, sym, subst}
use Rattle.refusals.specs.declared.fault.Fault.{Fault}
use Rattle.cli_parts.specs.Lines.{refusal}
use Rattle.cli_parts.specs.Stops.{OnRefused}
use Rattle.cli_parts.specs.Telling.{TellsFault}
use Rattle.cli_parts.specs.declared.stop.Stop.{Stop}
use Rattle.cli_parts.specs.declared.stop.Stop.TheVariants.{Memory, Unread, Unreadable, Refused}

module _ (Holds : List ℕ → Type 0) where
  pub of_refusal : (fault : Fault) → Holds (refusal fault) → (stop : Stop) → OnRefused stop (λ text. text ≡ refusal fault) → OnRefused stop Holds
  of_refusal fault holds Memory told = tt
  of_refusal fault holds (Unread word) told = tt
  of_refusal fault holds (Unreadable text) told = tt
  of_refusal fault holds (Refused text) told = subst Holds (sym told) holds

pub of_fault : (IsRefused : Fault → Type 0) (fault : Fault) → IsRefused fault → (stop : Stop) → OnRefused stop (λ text. text ≡ refusal fault) → OnRefused stop (TellsFault IsRefused)
of_fault IsRefused fault refused = of_refusal (TellsFault IsRefused) fault (record { fault = fault; refused = refused; line_is = refl })

-- what follows from what is said of the text of an answer, and of a refusal
module _ (P Q : List ℕ → Type 0) (follows : (text : List ℕ) → P text → Q text) where
  pub of_text : (r : Result (String Global) Stop) → IfOk r (λ text. P (string_bytes text)) → IfOk r (λ text. Q (string_bytes text))
  of_text (Ok text) h = follows (string_bytes text) h
  of_text (Err stop) h = tt

  pub of_refused : (r : Result (String Global) Stop) → IfErr r (λ stop. OnRefused stop P) → IfErr r (λ stop. OnRefused stop Q)
  of_refused (Ok text) h = tt
  of_refused (Err Memory) h = tt
  of_refused (Err (Unread word)) h = tt
  of_refused (Err (Unreadable text)) h = tt
  of_refused (Err (Refused text)) h = follows (string_bytes text) h

-- where each fault of a step is one of the command
pub of_step : (P Q : Fault → Type 0) → ((fault : Fault) → P fault → Q fault) → (stop : Stop) → OnRefused stop (TellsFault P) → OnRefused stop (TellsFault Q)
of_step P Q follows stop h = of_refused (TellsFault P) (TellsFault Q) (λ text told. record { fault = told.fault; refused = follows told.fault told.refused; line_is = told.line_is }) (Err stop) h

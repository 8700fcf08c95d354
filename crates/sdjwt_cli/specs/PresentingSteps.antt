-- For private functions: what the steps of `present` answer.
use Rattle.std.specs.Prelude.{◌≡◌, ◌≢◌, ℕ, List, Result, Ok, Err}
use Rattle.compact_form.specs.declared.parts.Parts.{Parts}
use Rattle.compact_form.specs.Compact.{compact}
use Rattle.holder_core.specs.declared.errors.PresentError.{PresentError}
use Rattle.holder_core.specs.declared.errors.PresentError.TheVariants.{Memory}
use Rattle.holder_core.specs.PresentRefusal.{present_refusal_text}
use Rattle.cli_parts.specs.Lines.{line}

-- for private functions: the line of what is presented
abbrev pub IsLineOf : Result Parts PresentError → List ℕ → Type 0
IsLineOf (Ok parts) text = text ≡ line (compact parts)
IsLineOf (Err error) text = ⊥

-- for private functions: the line of the refusal that is answered, where memory did not end
abbrev pub IsRefusalOf : Result Parts PresentError → List ℕ → Type 0
IsRefusalOf (Ok parts) text = ⊥
IsRefusalOf (Err error) text = (error ≢ Memory) × (text ≡ line (present_refusal_text error))

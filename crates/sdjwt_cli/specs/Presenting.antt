-- The command `present`: what it prints of a token file for an order file, and when it refuses.
use Rattle.std.specs.Prelude.{◌≡◌, ◌≢◌, ◌≤◌, ℕ, List, length, replicate, Option, None, Some, codes}
use Rattle.sd_outside.specs.Limits.{compact_max}
use Rattle.compact_form.specs.declared.parts.Parts.{Parts}
use Rattle.compact_form.specs.Compact.{compact}
use Rattle.hmac_sign.specs.declared.alg.Alg.{Alg}
use Rattle.hmac_sign.specs.Hmac.{key_block, hs256_key, IsGood}
use Rattle.holder_core.specs.Asked.{asked_by}
use Rattle.holder_core.specs.declared.errors.PresentError.{PresentError}
use Rattle.holder_core.specs.declared.errors.PresentError.TheVariants.{Memory, SignFailed}
use Rattle.holder_core.specs.declared.present_file.PresentFile.{PresentFile}
use Rattle.holder_core.specs.Present.{IsPresented, IsNotPresented}
use Rattle.holder_core.specs.PresentRefusal.{present_refusal_text}
use Rattle.holder_core.specs.PresentFile.{IsPresentFile}
use Rattle.cli_parts.specs.Lines.{line}
use Rattle.selection_core.specs.Never.{never_rule}

-- the key that signs: that of the order, or one of zeros, which signs nothing,
-- where no key binding token is asked for
abbrev pub signing_key : Option (List ℕ) → List ℕ
signing_key None = key_block Alg.Hs256 (replicate 32 0)
signing_key (Some key) = key

-- what is presented of the token for what an order says
abbrev pub IsPresentedFor : PresentFile → List ℕ → ℕ → Parts → Type 0
IsPresentedFor said token_file now parts =
    IsPresented never_rule said.never token_file (asked_by said.ask) (codes "HS256")
    (IsGood (hs256_key (signing_key said.key))) now parts

-- why nothing is presented
abbrev pub IsNotPresentedFor : PresentFile → List ℕ → ℕ → PresentError → Type 0
IsNotPresentedFor said token_file now error =
    IsNotPresented never_rule said.never token_file (asked_by said.ask) (codes "HS256")
    (IsGood (hs256_key (signing_key said.key))) now error

-- the token is presented for the order, and this is the line of its compact text
pub record Presents (order_file token_file : List ℕ) (now : ℕ) (answer : List ℕ) : Type 0 where
  pub said : PresentFile
  pub is_order : IsPresentFile order_file said
  pub parts : Parts
  pub presented : IsPresentedFor said token_file now parts
  pub short : length (compact parts) ≤ compact_max
  pub line_is : answer ≡ line (compact parts)

-- the first refusal that applies, with its line
pub record DoesNotPresent (order_file token_file : List ℕ) (now : ℕ) (text : List ℕ) : Type 0 where
  pub said : PresentFile
  pub is_order : IsPresentFile order_file said
  pub error : PresentError
  pub refused : IsNotPresentedFor said token_file now error
  pub memory : error ≢ Memory
  pub signed : error ≢ SignFailed
  pub line_is : text ≡ line (present_refusal_text error)

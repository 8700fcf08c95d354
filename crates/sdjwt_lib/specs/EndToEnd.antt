-- For private functions: compact texts of what is issued and of what is presented.
use Rattle.std.specs.Prelude.{◌≡◌, ℕ, List, codes}
use Rattle.compact_form.specs.declared.parts.Parts.{Parts}
use Rattle.compact_form.specs.Compact.{compact}
use Rattle.hmac_sign.specs.Hmac.{AlgKey}
use Rattle.hmac_sign.specs.Signatures.{Meaning}
use Rattle.selection_core.specs.Consent.{RuleAnswers}
use Rattle.holder_core.specs.Asked.{asked_by}
use Rattle.holder_core.specs.Present.{IsPresented}
use Rattle.holder_core.specs.declared.ask.Ask.{Ask}
use Rattle.issuer_core.specs.Order.{Order}
use Rattle.sdjwt_cli.specs.Issuing.{IsIssuedBy}

pub record IsIssuedText (seed : List ℕ) (order : Order) (key : AlgKey) (text : List ℕ)
    : Type 0 where
  pub parts : Parts
  pub issued : IsIssuedBy seed order key parts
  pub text_is : text ≡ compact parts

pub record IsPresentedText {F : Type 0} (answers : RuleAnswers F) (rule : F) (token : List ℕ)
    (ask : Ask) (good : Meaning) (now : ℕ) (text : List ℕ) : Type 0 where
  pub parts : Parts
  pub presented : IsPresented answers rule token (asked_by ask) (codes "HS256") good now parts
  pub text_is : text ≡ compact parts

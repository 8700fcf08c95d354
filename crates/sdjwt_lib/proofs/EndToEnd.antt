-- What is issued for an order is presented as it is asked, and accepted with the claims that are to be shown.
use Rattle.std.proofs.Common.{◌≡◌, ◌≢◌, ℕ, ◌<◌, List, sym, ap, subst, ◌∙◌, arith, codes}
use Rattle.std.specs.Prelude.{◌^◌}
use Rattle.sd_outside.specs.Causes.{Rose}
use Rattle.claim_tree.specs.Tree.{Tree}
use Rattle.refusals.specs.Lowest.{IsLowest}
use Rattle.refusals.specs.declared.fault.Fault.{Fault}
use Rattle.hmac_sign.specs.Hmac.{AlgKey, hs256_key, IsGood}
use Rattle.json_form.specs.Alone.{alone}
use Rattle.json_form.specs.Token.{IsToken}
use Rattle.marked_tree.specs.Marked.{strip}
use Rattle.selection_core.specs.Consent.{RuleAnswers}
use Rattle.verifier_core.specs.Verdict.{Fails, demands_of}
use Rattle.verifier_core.specs.Verdicts.{IsAcceptedAs}
use Rattle.verifier_core.specs.declared.policy.Policy.{Policy}
use Rattle.verifier_core.proofs.OneVerdict.{one_accepted, accepted_not_refused}
use Rattle.holder_core.specs.Asked.{asked_by}
use Rattle.holder_core.specs.Present.{IsNotPresented}
use Rattle.holder_core.specs.declared.ask.Ask.{Ask}
use Rattle.holder_core.specs.declared.errors.PresentError.{PresentError}
use Rattle.holder_core.specs.declared.errors.PresentError.TheVariants.{Memory, SignFailed}
use Rattle.issuer_core.specs.Order.{Order}
use Rattle.sdjwt_cli.specs.AnySigner.{key_signer}
use Rattle.sdjwt_cli.specs.PresentedValues.{AcceptedBy, AreShort, IsShownAt, PresentedOverValues}
use Rattle.sdjwt_cli.specs.Suits.{Suits, claims_for}
use Rattle.sdjwt_cli.proofs.HeldIssued.{by_anyone}
use Rattle.sdjwt_lib.specs.EndToEnd.{IsIssuedText, IsPresentedText}

-- no count of faults rose that began and ended at none
pub never : Rose 0 0 → ⊥
never h = omega (arith, h)

module _ {F : Type 0} (answers : RuleAnswers F) (rule : F) (law : PresentedOverValues answers rule) (seed : List ℕ) (order : Order) (key : AlgKey) (token : List ℕ) (issued : IsIssuedText seed order key token)
    (ask : Ask) (signing : List ℕ) (policy : Policy) (now later : ℕ) (suits : Suits answers rule order key ask signing policy now later) (short : AreShort ask.binding) (in_range : now < 2 ^ 64) where
  shown_at : IsShownAt answers rule token (asked_by ask) (key_signer (hs256_key signing)) now (AcceptedBy (demands_of policy) later (claims_for order ask.want))
  shown_at =
      let over_values = law seed order key issued.parts (by_anyone seed order key issued.parts issued.issued) ask signing policy now later suits short in_range in
      over_values.shown token (subst (λ (x : List ℕ). IsToken x (alone issued.parts)) (sym issued.text_is) over_values.reads)

  pub refuses_nothing : (error : PresentError) → error ≢ Memory → error ≢ SignFailed → IsNotPresented answers rule token (asked_by ask) (codes "HS256") (IsGood (hs256_key signing)) now error → ⊥
  refuses_nothing = shown_at.presents

  module _ (text : List ℕ) (presented : IsPresentedText answers rule token ask (IsGood (hs256_key signing)) now text) where
    accepted : IsAcceptedAs text policy later (claims_for order ask.want)
    accepted =
        let whole = shown_at.verifies presented.parts presented.presented in
        whole.accepted text (subst (λ (x : List ℕ). IsToken x (alone presented.parts)) (sym presented.text_is) whole.reads)

    pub passes : (fault : Fault) → IsLowest (Fails text policy later) fault → ⊥
    passes fault lowest = accepted_not_refused text (demands_of policy) later accepted.0 fault accepted.1 lowest

    pub found : (payload : Tree) → IsAcceptedAs text policy later payload → payload ≡ claims_for order ask.want
    found payload other = other.2 ∙ ap strip (one_accepted text (demands_of policy) later other.0 accepted.0 other.1 accepted.1) ∙ sym accepted.2

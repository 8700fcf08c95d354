-- Where the caller is asked for the issuer's signature, nothing is looked up.
use Rattle.std.proofs.Common.{◌≡◌, ◌≤◌, ℕ, Option, Some, None, Result, IfOk, refl, sym, ◌∙◌, arith}
use Rattle.std.proofs.lemmas.Result.{IfOk-weaker}
use Rattle.json_form.specs.Token.{IsToken}
use Rattle.json_form.specs.declared.token.Token.{Token}
use Rattle.claim_tree.specs.Tree.{Text}
use Rattle.key_binding.specs.declared.caller.SignatureAnswer.{SignatureAnswer}
use Rattle.refusals.specs.declared.condition.Condition.{Condition}
use Rattle.refusals.specs.declared.fault.Place.TheVariants.{Nowhere}
use Rattle.verifier_core.specs.Check.{IsCounted, IsReadCounted, IsUncounted}
use Rattle.verifier_core.specs.Verdict.{TokenFails}
use Rattle.holder_core.specs.Asked.{caller_rules}
use Rattle.holder_core.specs.PresentSteps.{AsksOf}
use Rattle.holder_core.specs.ToSign.{OnAsksIssuer, OnPicked}
use Rattle.holder_core.specs.declared.ask.CallerAsk.{CallerAsk}
use Rattle.holder_core.specs.declared.errors.PresentError.{PresentError}
use Rattle.holder_core.specs.declared.signing.Presentation.{Presentation}

module _ (token : Token) (ask : CallerAsk) (answer : Option SignatureAnswer) where
  -- no signature was said to be good, so the condition on it fails
  none_looked_up : (old new : ℕ) → IsUncounted (TokenFails token (caller_rules ask.algs answer)) old new → (p : Presentation) → AsksOf token ask answer p → OnAsksIssuer p (λ _. new ≡ old)
  none_looked_up old new none (Presentation.AsksIssuer question) (unsaid, asked, is) =
      none Condition.BadSignature Nowhere
      (refl, (question.header, is.header, λ answered. let both : None ≡ Some SignatureAnswer.Good = sym unsaid ∙ answered.1 in cc both)) (omega arith)
  none_looked_up old new none (Presentation.ToSign unsigned) asks = tt
  none_looked_up old new none (Presentation.Presented parts) asks = tt

  pub asks_uncounted : (old new : ℕ) → IsUncounted (TokenFails token (caller_rules ask.algs answer)) old new → (r : Result Presentation PresentError) → IfOk r (AsksOf token ask answer)
      → IfOk r (λ p. OnAsksIssuer p (λ _. new ≡ old))
  asks_uncounted old new none r asks = IfOk-weaker r _ _ (none_looked_up old new none) asks

  -- what is asked is not opened
  not_picked : (P : Type 0) (p : Presentation) → AsksOf token ask answer p → OnPicked p P
  not_picked P (Presentation.AsksIssuer question) asks = tt
  not_picked P (Presentation.ToSign unsigned) asks = absurd asks
  not_picked P (Presentation.Presented parts) asks = absurd asks

  pub asks_unopened : (P : Type 0) (r : Result Presentation PresentError) → IfOk r (AsksOf token ask answer) → IfOk r (λ p. OnPicked p P)
  asks_unopened P r asks = IfOk-weaker r _ _ (not_picked P) asks

-- what is counted of the token of a text is counted of the text
pub picked_more : (P Q : Type 0) → (P → Q) → (p : Presentation) → OnPicked p P → OnPicked p Q
picked_more P Q more (Presentation.AsksIssuer question) h = tt
picked_more P Q more (Presentation.ToSign unsigned) h = more h
picked_more P Q more (Presentation.Presented parts) h = more h

pub read_counted : (text : Text) (token : Token) → IsToken text token → (old new : ℕ) (r : Result Presentation PresentError) → IfOk r (λ p. OnPicked p (IsCounted token old new))
    → IfOk r (λ p. OnPicked p (IsReadCounted text old new))
read_counted text token is old new r h = IfOk-weaker r _ _ (picked_more (IsCounted token old new) (IsReadCounted text old new) (λ counted. (token, is, counted))) h

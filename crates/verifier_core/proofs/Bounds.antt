-- What is accepted has no more nodes than came in, nor has what a caller is shown with a question.
use Rattle.std.proofs.Common.{◌≡◌, ℕ, ◌≤◌, List, sym, subst, arith}
use Rattle.claim_tree.specs.Tree.{Tree}
use Rattle.json_form.specs.Token.{IsToken}
use Rattle.json_form.specs.declared.token.Token.{Token}
use Rattle.marked_tree.specs.Marked.{Marked, strip}
use Rattle.rebuild_core.specs.Laws.{IsWithinNodes}
use Rattle.rebuild_core.proofs.Size.{size_bound_holds}
use Rattle.refusals.specs.Condition.{number_of}
use Rattle.refusals.specs.Passing.{Passes}
use Rattle.refusals.specs.declared.condition.Condition.{Condition}
use Rattle.refusals.specs.declared.fault.Place.{Place}
use Rattle.verifier_core.specs.Asking.{AsksHolder}
use Rattle.verifier_core.specs.Verdict.{Demands, FailsFor, IsAcceptedFor, Opens, of_token}
use Rattle.verifier_core.specs.Verdicts.{IsBounded}
use Rattle.verifier_core.specs.declared.asking.Answers.{Answers}
use Rattle.verifier_core.specs.declared.asking.Question.{Question}
use Rattle.verifier_core.proofs.ContentFacts.{content_passes}

module _ (content : List ℕ) (demands : Demands) (now : ℕ) where
  -- where no condition below 22 fails
  opened_bounded : (token : Token) → IsToken content token → Passes 22 (FailsFor content demands now) → (marked : Marked) → Opens token marked → (payload : Tree) → payload ≡ strip marked → IsBounded content payload
  opened_bounded token there passes marked opens payload is =
      let (signed, given, has, processed_is) = opens in
      let sound = content_passes token demands.rules signed given has (λ c place fails. passes c place (of_token token there fails)) in
      record {
        token = token;
        is_token = there;
        signed = signed;
        given = given;
        has = has;
        within = subst (IsWithinNodes signed given) (sym is) (subst (λ (m : Marked). IsWithinNodes signed given (strip m)) (sym processed_is) (size_bound_holds signed given sound.referenced));
      }

  pub accepted_bounded : (marked : Marked) (payload : Tree) → IsAcceptedFor content demands now marked → payload ≡ strip marked → IsBounded content payload
  accepted_bounded marked payload accepted is =
      opened_bounded accepted.token accepted.is_token (λ c place fails. absurd (accepted.passes c place fails)) marked accepted.opens payload is

  pub asked_bounded : (answers : Answers) (question : Question) (payload : Tree) → AsksHolder content demands now answers question payload → IsBounded content payload
  asked_bounded answers question payload asks = opened_bounded asks.token asks.asked.is_token passes asks.marked asks.opens payload asks.payload_is
    where
      passes : (c : Condition) (place : Place) → FailsFor content demands now c place → 22 ≤ number_of c
      passes c place fails = let low = asks.asked.passes c place fails in omega (arith, low)

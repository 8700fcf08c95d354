-- What is presented by a rule of consent, or refused, is so by each rule that may answer as it does.
use Rattle.std.proofs.Common.{ℕ, Bool, true, false, Result, Ok, Err, IfOk, IfErr}
use Rattle.claim_tree.specs.Tree.{Text}
use Rattle.compact_form.specs.declared.parts.Parts.{Parts}
use Rattle.hmac_sign.specs.Signatures.{Meaning}
use Rattle.json_form.specs.declared.token.Token.{Token}
use Rattle.marked_tree.specs.Marked.{Marked}
use Rattle.marked_tree.specs.Paths.{Path, chosen}
use Rattle.selection_core.specs.Consent.{RuleAnswers, Allows, AllAllowed, IsRefusedAt}
use Rattle.holder_core.specs.Asked.{Asked}
use Rattle.holder_core.specs.declared.errors.PresentError.{PresentError}
use Rattle.holder_core.specs.declared.errors.PresentError.TheVariants.{ConsentRefused, BindingKeyDiffers, SignFailed, TooLong}
use Rattle.holder_core.specs.Present.{IsAgreed, IsAnswer, IsNoAnswer, IsPresented, IsNotPresented, no_memory, not_read, refused}

module _ {F G : Type 0} {answers : RuleAnswers F} {rule : F} (others : RuleAnswers G) (other : G) (carries : (at : Path) (b : Bool) → Allows answers rule at b → Allows others other at b) where
  all_allowed : (m : Marked) (s : ℕ → Bool) → AllAllowed answers rule m s → AllAllowed others other m s
  all_allowed m s h i at kept stands = carries at true (h i at kept stands)

  refused_at : (m : Marked) (s : ℕ → Bool) (i : ℕ) → IsRefusedAt answers rule m s i → IsRefusedAt others other m s i
  refused_at m s i h = record {
    chosen = h.chosen;
    at = h.at;
    stands = h.stands;
    refused = carries h.at false h.refused;
    smaller = λ j there less kept stands. carries there true (h.smaller j there less kept stands);
  }

  agreed : (token : Token) (asked : Asked) (m : Marked) → IsAgreed answers rule token asked m → IsAgreed others other token asked m
  agreed token asked m h = record { held = h.held; there = h.there; allowed = all_allowed m (chosen m asked.want) h.allowed }

  module _ (token : Token) (asked : Asked) (alg : Text) (good : Meaning) (now : ℕ) where
    answer : (a : Parts) → IsAnswer answers rule token asked alg good now a → IsAnswer others other token asked alg good now a
    answer a h = record {
      marked = h.marked;
      agreed = agreed token asked h.marked h.agreed;
      key = h.key;
      presents = h.presents;
      hash = h.hash;
      has_hash = h.has_hash;
      bound = h.bound;
    }

    refusal : (e : PresentError) → IsNoAnswer answers rule token asked alg good now e → IsNoAnswer others other token asked alg good now e
    refusal (ConsentRefused i) h = record { marked = h.marked; held = h.held; there = h.there; refused = refused_at h.marked (chosen h.marked asked.want) i h.refused }
    refusal BindingKeyDiffers h = record { marked = h.marked; agreed = agreed token asked h.marked h.agreed; binding = h.binding; asked_for = h.asked_for; kid = h.kid; named = h.named; differs = h.differs }
    refusal SignFailed h = record { marked = h.marked; agreed = agreed token asked h.marked h.agreed; binding = h.binding; asked_for = h.asked_for; key = h.key }
    refusal TooLong h = record { answer = h.answer; is_answer = answer h.answer h.is_answer; long = h.long }
    refusal _ h = h

-- the fact comes first, and tells the rule
pub presented_by : {F G : Type 0} {answers : RuleAnswers F} {rule : F} (content : Text) (asked : Asked) (alg : Text) (good : Meaning) (now : ℕ) (r : Result Parts PresentError)
    → IfOk r (IsPresented answers rule content asked alg good now) → (others : RuleAnswers G) (other : G)
    → ((at : Path) (b : Bool) → Allows answers rule at b → Allows others other at b) → IfOk r (IsPresented others other content asked alg good now)
presented_by content asked alg good now (Ok a) h others other carries =
    record { token = h.token; is_token = h.is_token; is_answer = answer others other carries h.token asked alg good now a h.is_answer }
presented_by content asked alg good now (Err e) h others other carries = tt

pub not_presented_by : {F G : Type 0} {answers : RuleAnswers F} {rule : F} (content : Text) (asked : Asked) (alg : Text) (good : Meaning) (now : ℕ) (r : Result Parts PresentError)
    → IfErr r (IsNotPresented answers rule content asked alg good now) → (others : RuleAnswers G) (other : G)
    → ((at : Path) (b : Bool) → Allows answers rule at b → Allows others other at b) → IfErr r (IsNotPresented others other content asked alg good now)
not_presented_by content asked alg good now (Ok a) h others other carries = tt
not_presented_by content asked alg good now (Err e) (no_memory is) others other carries = no_memory is
not_presented_by content asked alg good now (Err e) (not_read fault is r) others other carries = not_read fault is r
not_presented_by content asked alg good now (Err e) (refused token is r) others other carries =
    refused token is (refusal others other carries token asked alg good now e r)

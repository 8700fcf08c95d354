-- The law of presenting, over values: whoever signs, and where the keys are held.
use Rattle.std.proofs.Common.{ℕ, List}
use Rattle.compact_form.specs.declared.parts.Parts.{Parts}
use Rattle.hmac_sign.specs.Hmac.{hs256_key}
use Rattle.json_form.specs.Token.{IsToken}
use Rattle.selection_core.specs.Consent.{RuleAnswers}
use Rattle.issuer_core.specs.Order.{Order}
use Rattle.verifier_core.specs.Verdict.{Demands, demands_of}
use Rattle.holder_core.specs.Asked.{Asked, asked_by}
use Rattle.holder_core.specs.Present.{IsPresented}
use Rattle.sdjwt_cli.specs.AnySigner.{AnySigner, key_signer, BindingFits, DemandsSuit}
use Rattle.sdjwt_cli.specs.PresentedValues.{IsShownOf, IsShownByAnyone, AcceptedBy, PresentedByAnyone, PresentedOverValues}
use Rattle.json_form.specs.Alone.{alone}
use Rattle.sdjwt_cli.specs.Suits.{claims_for}
use Rattle.sdjwt_cli.proofs.HeldIssued.{IsTokenOf, token_of, issued_text}
use Rattle.sdjwt_cli.proofs.KeySuits.{key_token_of, key_fits, key_suits}
use Rattle.sdjwt_cli.proofs.NothingRefused.{is_presented_of, nothing_refused}
use Rattle.sdjwt_cli.proofs.PresentedAccepted.{IsPresentedOf, can_be_sent, answer_text, answer_accepted}

module _ {F : Type 0} (answers : RuleAnswers F) (rule : F) (seed : List ℕ) (o : Order) (issuer : AnySigner) (parts : Parts) (is : IsTokenOf seed o issuer parts)
    (asked : Asked) (holder : AnySigner) (demands : Demands) (now later : ℕ) (suits : DemandsSuit answers rule o issuer asked holder demands now later) where
  of : (token : List ℕ) → IsToken token (alone parts) → (answer : Parts) → IsPresented answers rule token asked holder.alg holder.good now answer → IsPresentedOf o asked holder parts now answer
  of token there answer presented = is_presented_of seed o issuer parts is answers rule asked holder now token there answer presented

  pub shown_by_anyone : IsShownByAnyone answers rule parts asked holder now (AcceptedBy demands later (claims_for o asked.want))
  shown_by_anyone = record {
    reads = issued_text seed o issuer parts is;
    presents = λ token there fits. nothing_refused seed o issuer parts is answers rule asked holder now token there demands later suits fits;
    sends = λ token there answer presented. answer_text seed o issuer parts is asked holder now answer (of token there answer presented);
    verifies = λ token there answer presented text read. answer_accepted seed o issuer parts is asked holder now answer (of token there answer presented) answers rule demands later suits text read;
  }

  -- where key binding tokens fit, no more is to be known
  pub shown_of : BindingFits asked.binding holder now → IsShownOf answers rule parts asked holder now (AcceptedBy demands later (claims_for o asked.want))
  shown_of fits = record {
    reads = shown_by_anyone.reads;
    shown = λ token there. record {
      presents = shown_by_anyone.presents token there fits;
      verifies = λ answer presented. record {
        reads = shown_by_anyone.sends token there answer presented (can_be_sent seed o issuer parts is asked holder now answer (of token there answer presented) fits);
        accepted = shown_by_anyone.verifies token there answer presented;
      };
    };
  }

pub presented_by_anyone : {F : Type 0} (answers : RuleAnswers F) (rule : F) (issuer holder : AnySigner) → PresentedByAnyone answers rule issuer holder
presented_by_anyone answers rule issuer holder seed o parts issued legible asked demands now later suits =
    shown_by_anyone answers rule seed o issuer parts (token_of seed o issuer parts issued legible) asked holder demands now later suits

pub presented_over_values : {F : Type 0} (answers : RuleAnswers F) (rule : F) → PresentedOverValues answers rule
presented_over_values answers rule seed o key parts issued ask signing policy now later suits small in_range =
    shown_of answers rule seed o (key_signer key) parts (key_token_of seed o key parts issued) (asked_by ask) (key_signer (hs256_key signing)) (demands_of policy) now later
    (key_suits answers rule o key ask signing policy now later suits)
    (key_fits signing now in_range ask.binding small)

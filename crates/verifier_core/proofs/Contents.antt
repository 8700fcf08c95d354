-- From what is read of a token to what is opened of it, and to the verdict.
use Rattle.std.proofs.Common.{◌≡◌, ℕ, ◌<◌, ◌≤◌, ◌-◌, ◌^◌, inr, List, length, Some, Result, Ok, Err, IfOk, IfErr, refl, sym, subst}
use Rattle.std.proofs.lemmas.Result.{IfOk-weaker}
use Rattle.std.proofs.lemmas.Slice.Zip.{AllZip-long}
use Rattle.std.specs.List.{AllZip}
use Rattle.claim_tree.specs.Tree.{Text, Tree, Members, depth}
use Rattle.compact_form.specs.declared.parts.JwtParts.{JwtParts}
use Rattle.refusals.specs.Lowest.{IsLowest}
use Rattle.refusals.specs.Passing.{Passes}
use Rattle.digest_sites.specs.Given.{Given}
use Rattle.disclosure.specs.Digest.{payload_hash}
use Rattle.disclosure.specs.declared.digests.HashAlg.{HashAlg}
use Rattle.json_form.specs.Token.{IsToken}
use Rattle.json_form.specs.declared.token.Token.{Token}
use Rattle.jws_part.specs.Part.{IsBody}
use Rattle.marked_tree.specs.Marked.{Marked}
use Rattle.rebuild_core.specs.Answer.{ValuesShallow, IsProcessRefused}
use Rattle.rebuild_core.specs.declared.errors.ProcessError.{ProcessError}
use Rattle.rebuild_core.specs.Soundness.{IsSound}
use Rattle.rebuild_core.specs.LookUps.{look_ups, counted, RoseWithin}
use Rattle.rebuild_core.specs.Opening.{processed}
use Rattle.rebuild_core.specs.Payload.{without_alg}
use Rattle.verifier_core.specs.Content.{Content, IsReadyToOpen}
use Rattle.verifier_core.specs.Check.{OnFault, IsContent, IsRead, OfToken, IsCounted, IsCountedWithin, IsOpening, IsVerdictFor, IsUncounted, IsOpened, judged_of, IsSigned, IsSignedFault, IsPayloadFault, IsUnreadAt}
use Rattle.verifier_core.specs.Verdict.{Rules, Demands, TokenFails, FailsFor, HasHash, IsBindingMissing, IsChecked, Gives}
use Rattle.verifier_core.specs.declared.token_checking.VerifyError.{VerifyError}
use Rattle.verifier_core.proofs.CheckSteps.{on_fault, is_payload, signed_passes, signed_fault, payload_passes, payload_fault, given_passes, given_fault, content_fault, content_checked, passed_uncounted}
use Rattle.verifier_core.proofs.Verdicts.{text_uncounted, token_lowest}

-- ---- what is read

module _ (token : Token) (rules : Rules) (signed : JwtParts) (outer : Members) (same : signed ≡ token.parts.signed) (others : outer ≡ token.outer) where
  at_parts : (P : JwtParts → Members → Type 0) → P signed outer → P token.parts.signed token.outer
  at_parts P h = subst (λ s. P s token.outer) same (subst (λ o. P signed o) others h)

  pub header_refused : (e : VerifyError) → OnFault e (IsSignedFault signed outer rules) → OnFault e (IsLowest (TokenFails token rules))
  header_refused e = on_fault e _ _ (λ fault h. signed_fault token rules fault (at_parts (λ s o. IsSignedFault s o rules fault) h))

  module _ (good : IsSigned signed outer rules) where
    header_passes : Passes 11 (TokenFails token rules)
    header_passes = signed_passes token rules (at_parts (λ s o. IsSigned s o rules) good)

    pub body_refused : (e : VerifyError) → OnFault e (IsPayloadFault signed.payload) → OnFault e (IsLowest (TokenFails token rules))
    body_refused e = on_fault e _ _ (λ fault h. payload_fault token rules fault header_passes (at_parts (λ s o. IsPayloadFault s.payload fault) h))

    module _ (body : Tree) (hash : HashAlg) (is_body : IsBody signed.payload body) (hash_is : payload_hash body ≡ Some hash) (texts : List Text) (all : texts ≡ token.parts.disclosures) where
      has_body : IsBody token.parts.signed.payload body
      has_body = at_parts (λ s o. IsBody s.payload body) is_body

      body_passes : Passes 13 (TokenFails token rules)
      body_passes = payload_passes token rules body hash header_passes has_body hash_is

      pub given_refused : (e : VerifyError) → OnFault e (IsUnreadAt hash texts) → OnFault e (IsLowest (TokenFails token rules))
      given_refused e = on_fault e _ _ (λ fault h. given_fault token rules hash fault body_passes (subst (λ ds. IsUnreadAt hash ds fault) all h))

      module _ (given : List Given) (gives : AllZip (Gives hash) texts given) where
        gives_all : AllZip (Gives hash) token.parts.disclosures given
        gives_all = subst (λ ds. AllZip (Gives hash) ds given) all gives

        pub is_content : IsContent token rules (record { body = body; hash = hash; given = given })
        is_content = record {
          passes = given_passes token rules hash given body_passes gives_all;
          has = record { body = body; is_body = has_body; payload_is = refl; hash = hash; hash_is = hash_is; disclosures = gives_all };
          hash = (body, has_body, hash_is);
        }

        pub is_openable : depth body ≤ 127 → ValuesShallow given → length token.parts.disclosures < 2 ^ 32 - 1 → IsReadyToOpen body given
        is_openable low shallow few = record {
          object = is_payload signed.payload body hash is_body hash_is;
          body_depth = low;
          values_depth = shallow;
          few = subst (λ n. n < 2 ^ 32 - 1) (sym (AllZip-long (Gives hash) token.parts.disclosures given gives_all)) few;
        }

-- ---- what is opened

module _ (token : Token) (rules : Rules) (content : Content) (is : IsContent token rules content) where
  pub opened : (marked : Marked) → IsSound (without_alg content.body) content.given → marked ≡ processed (without_alg content.body) content.given → IsChecked token rules marked
  opened marked sound same = content_checked token rules (without_alg content.body) content.given marked is.has is.passes sound same

  -- where it is processed, or not
  pub opening : {A : Type 0} (r : Result A ProcessError) (old new : ℕ) → IfErr r (IsProcessRefused (without_alg content.body) content.given) → IfOk r (λ _. new ≡ counted old (look_ups (without_alg content.body) content.given))
      → RoseWithin (look_ups (without_alg content.body) content.given) old new → IsOpening token rules (judged_of r) old new
  opening (Ok shown) old new refused same rose = record {
    refused = tt;
    counted = (without_alg content.body, content.given, is.has, same);
    within = inr (without_alg content.body, content.given, is.has, rose);
  }
  opening (Err error) old new refused same rose = record {
    refused = content_fault token rules (without_alg content.body) content.given is.has is.passes error refused;
    counted = tt;
    within = inr (without_alg content.body, content.given, is.has, rose);
  }

  pub content_uncounted : (old new : ℕ) → IsUncounted (TokenFails token rules) old new
  content_uncounted old new = passed_uncounted (TokenFails token rules) old new is.passes

-- what is shown where it is processed
pub judged_ok : {A : Type 0} (r : Result A ProcessError) (P Q R : A → Type 0) → ((shown : A) → P shown → Q shown → R shown) → IfOk r P → IfOk r Q → IfOk (judged_of r) R
judged_ok (Ok shown) P Q R more p q = more shown p q
judged_ok (Err error) P Q R more p q = tt

-- what a model shows is what is read
pub content_seen : (token : Token) (rules : Rules) (seen content : Content) → seen ≡ content → IsContent token rules content → IsContent token rules seen
content_seen token rules seen content same is = subst (IsContent token rules) (sym same) is

-- ---- the verdict

module _ (text : List ℕ) (demands : Demands) (now : ℕ) (token : Token) (is : IsToken text token) (sent : IsBindingMissing demands token.parts → ⊥) where
  pub token_refused : (e : VerifyError) → OnFault e (IsLowest (TokenFails token demands.rules)) → OnFault e (IsLowest (FailsFor text demands now))
  token_refused e = on_fault e _ _ (λ fault l. token_lowest text demands now token is sent fault l)

  pub read_uncounted : (content : Content) → IsContent token demands.rules content → (old new : ℕ) → IsUncounted (FailsFor text demands now) old new
  read_uncounted content has old new = text_uncounted text demands now token is sent old new (content_uncounted token demands.rules content has old new)

-- ---- what is opened of a text that is read

module _ (text : List ℕ) (demands : Demands) (token : Token) (content : Content) (read : IsRead text demands token content) where
  pub open_refused : (now : ℕ) (e : VerifyError) → OfToken content (λ t rules. OnFault e (IsLowest (TokenFails t rules))) → OnFault e (IsLowest (FailsFor text demands now))
  open_refused now e h = token_refused text demands now token read.is_token read.sent e (h token demands.rules read.is_content)

  pub is_opened : (marked : Marked) (hash : HashAlg) → IsChecked token demands.rules marked → OfToken content (λ t rules. HasHash t hash) → IsOpened text demands token marked hash
  is_opened marked hash checked has = record { is_token = read.is_token; sent = read.sent; checked = checked; hash_is = has token demands.rules read.is_content }

  -- whatever is answered after it is opened
  pub verdict_of : {A : Type 0} (now : ℕ) (r : Result A VerifyError) (old new : ℕ) → IfOk r (λ _. IsCounted token old new) → OfToken content (λ t rules. IsCountedWithin t old new) → IsVerdictFor text demands now r old new
  verdict_of now r old new counted within = record {
    no_memory = λ failed _. read.is_token.passes failed.fault failed.fails;
    counted = IfOk-weaker r _ _ (λ _ h. (token, read.is_token, h)) counted;
    within = inr (token, read.is_token, within token demands.rules read.is_content);
    uncounted = read_uncounted text demands now token read.is_token read.sent content read.is_content old new;
  }

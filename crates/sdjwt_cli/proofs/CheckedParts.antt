-- Parts that carry what is issued for an order are checked by who takes it, and process to what they show.
use Rattle.std.proofs.Common.{◌≡◌, inl, inr, ℕ, List, Some, None, refl, sym, ap, subst, ◌∙◌}
use Rattle.std.specs.Prelude.{option_and_then}
use Rattle.std.specs.List.{AllZip}
use Rattle.b64url_text.specs.Base64url.{AreBytes, b64}
use Rattle.claim_tree.specs.Tree.{Tree, no_members}
use Rattle.sd_outside.proofs.Lists.{In-At}
use Rattle.compact_form.specs.declared.parts.JwtParts.{JwtParts}
use Rattle.compact_form.specs.declared.parts.Parts.{Parts}
use Rattle.digest_sites.specs.Given.{Given}
use Rattle.disclosure.specs.Digest.{payload_hash}
use Rattle.hmac_sign.specs.Hmac.{AlgKey, IsGoodText}
use Rattle.hmac_sign.specs.Keys.{picked_key}
use Rattle.hmac_sign.specs.Signatures.{Meaning}
use Rattle.hmac_sign.proofs.Macs.{AreBytes-mac}
use Rattle.jws_part.specs.Header.{IsHeader}
use Rattle.jws_part.specs.Part.{IsBody}
use Rattle.jws_part.specs.declared.header.Header.{Header}
use Rattle.key_binding.specs.declared.caller.SignatureAnswer.{SignatureAnswer}
use Rattle.rebuild_core.specs.Soundness.{IsSound}
use Rattle.rebuild_core.specs.Opening.{processed}
use Rattle.rebuild_core.specs.Payload.{without_alg}
use Rattle.verifier_core.specs.Check.{IsSigned}
use Rattle.verifier_core.specs.Verdict.{Issuers, of_keys, of_caller, Rules, IsAlgRefusedBy, IsUnknownBy, IsBadBy, HasContent, IsChecked}
use Rattle.verifier_core.proofs.CheckSteps.{signed_passes, payload_passes, given_passes, content_checked}
use Rattle.issuer_core.specs.Laid.{with_alg}
use Rattle.issuer_core.specs.Order.{Order}
use Rattle.issuer_core.specs.Written.{header_of}
use Rattle.issuer_core.proofs.IssuedContent.{IsTextOf}
use Rattle.json_form.specs.Alone.{alone}
use Rattle.sdjwt_cli.specs.AnySigner.{AnySigner, TrustsIssuer, TakesIssued}

-- ---- who trusts the issuer finds nothing wrong with its signature

alg_taken : (issuers : Issuers) (header : Header) (good : Meaning) → TrustsIssuer issuers header good → IsAlgRefusedBy issuers header.alg → ⊥
alg_taken (of_keys keys algs) header good (taken, key, found, goods) (inl none) = let both : None ≡ Some key = sym (ap (option_and_then (picked_key keys header.kid)) none) ∙ found in cc both
alg_taken (of_keys keys algs) header good (taken, key, found, goods) (inr none) = let there = In-At algs header.alg taken in none there.0 there.1
alg_taken (of_caller caller) header good (taken, said, bytes) refused = taken refused

key_known : (issuers : Issuers) (header : Header) (good : Meaning) (signed : JwtParts) → TrustsIssuer issuers header good → IsUnknownBy issuers header signed → ⊥
key_known (of_keys keys algs) header good signed (taken, key, found, goods) unknown = let both : Some key ≡ None = sym found ∙ unknown in cc both
key_known (of_caller caller) header good signed (taken, said, bytes) unknown =
    let both : Some SignatureAnswer.Good ≡ Some SignatureAnswer.Unknown = sym said ∙ unknown.1 in
    cc both

not_bad : (issuers : Issuers) (header : Header) (good : Meaning) (signed : JwtParts) → TrustsIssuer issuers header good
    → (signature : List ℕ) → signed.signature ≡ b64 signature → good signed.protected signed.payload signature → IsBadBy issuers header signed → ⊥
not_bad (of_keys keys algs) header good signed (taken, key, found, goods) signature text made (other, other_is, bad) =
    let is_good = goods signed.protected signed.payload signature made in
    let bytes : AreBytes signature = subst AreBytes (sym is_good) (AreBytes-mac key signed.protected signed.payload) in
    let both : Some key ≡ Some other = sym found ∙ other_is in
    let one : key ≡ other = cc both in
    bad (subst (λ (x : AlgKey). IsGoodText x signed.protected signed.payload signed.signature) one (signature, record { fit = bytes; spelling = text }, is_good))
not_bad (of_caller caller) header good signed (taken, said, bytes) signature text made bad =
    bad (λ none. none signature (record { fit = bytes _ _ signature made; spelling = text }), said)

-- ---- the parts

-- the parts are signed so, and carry this payload and these disclosures
pub record CarriesFor (o : Order) (issuer : AnySigner) (p : Tree) (g : List Given) (parts : Parts) : Type 0 where
  pub header : IsHeader parts.signed.protected no_members (header_of issuer.alg o)
  pub signature : List ℕ
  pub signature_text : parts.signed.signature ≡ b64 signature
  pub good : issuer.good parts.signed.protected parts.signed.payload signature
  pub body : IsBody parts.signed.payload (with_alg o.hash p)
  pub hash : payload_hash (with_alg o.hash p) ≡ Some o.hash
  pub bare : without_alg (with_alg o.hash p) ≡ p
  pub texts : AllZip (IsTextOf o.hash) parts.disclosures g

module _ (o : Order) (issuer : AnySigner) (p : Tree) (g : List Given) (parts : Parts) (carries : CarriesFor o issuer p g parts) where
  pub content : HasContent (alone parts) p g
  content = record { body = with_alg o.hash p; is_body = carries.body; payload_is = sym carries.bare; hash = o.hash; hash_is = carries.hash; disclosures = carries.texts }

  pub checked : (rules : Rules) → TakesIssued rules o issuer → IsSound p g → IsChecked (alone parts) rules (processed p g)
  checked rules takes sound =
      let header = header_of issuer.alg o in
      let signed : IsSigned parts.signed no_members rules = record {
        header = header;
        is_header = carries.header;
        alg = alg_taken rules.issuers header issuer.good takes.trusts;
        typ = λ (name, asked, other). other (takes.typ name asked);
        known = key_known rules.issuers header issuer.good parts.signed takes.trusts;
        good = not_bad rules.issuers header issuer.good parts.signed takes.trusts carries.signature carries.signature_text carries.good;
      } in
      let at_payload = payload_passes (alone parts) rules (with_alg o.hash p) o.hash (signed_passes (alone parts) rules signed) carries.body carries.hash in
      content_checked (alone parts) rules p g (processed p g) content (given_passes (alone parts) rules o.hash g at_payload carries.texts) sound refl

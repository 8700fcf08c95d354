-- With a key an order and a seed have one token.
use Rattle.std.proofs.Common.{◌≡◌, ◌≤◌, List, Option, ap, ap₂, arith, length, refl, sym, ◌∙◌}
use Rattle.b64url_text.specs.Base64url.{b64}
use Rattle.claim_tree.specs.Tree.{Text, Tree}
use Rattle.claim_tree.specs.JsonText.{json_text}
use Rattle.sd_outside.specs.Limits.{issue_max}
use Rattle.compact_form.specs.declared.parts.Parts.{Parts}
use Rattle.compact_form.specs.declared.parts.JwtParts.{JwtParts}
use Rattle.compact_form.specs.Compact.{compact}
use Rattle.hmac_sign.specs.Algs.{alg_text}
use Rattle.hmac_sign.specs.Hmac.{AlgKey, IsGood, mac}
use Rattle.digest_sites.specs.Given.{Given}
use Rattle.issuer_core.specs.declared.errors.IssueError.{IssueError}
use Rattle.issuer_core.specs.declared.errors.IssueError.TheVariants.{DigestClash, TooLong}
use Rattle.issuer_core.specs.Order.{Order}
use Rattle.issuer_core.specs.Digests.{Maker, made_texts}
use Rattle.issuer_core.specs.Laid.{with_alg}
use Rattle.refusals.specs.Lowest.{NoneApplies}
use Rattle.issuer_core.specs.OrderRefusals.{AppliesToOrder}
use Rattle.issuer_core.specs.Written.{IsWritten, IsLaidOut}
use Rattle.issuer_core.specs.Issue.{AppliesToIssue, HasNoClash, IsIssueTooLong}
use Rattle.issuer_core.proofs.OneLaid.{one_payload, one_given}

abbrev made : Text → Text → Text → List Text → Option JwtParts → Parts
made protected payload signature disclosures binding =
    record { signed = record { protected = protected; payload = payload; signature = signature }; disclosures = disclosures; binding = binding }

same_parts : (a b c : Text) (d : List Text) (e : Option JwtParts) (p q r : Text) (s : List Text) (t : Option JwtParts) → a ≡ p → b ≡ q → c ≡ r → d ≡ s → e ≡ t → made a b c d e ≡ made p q r s t
same_parts a b c d e p q r s t ea eb ec ed ee = rw (ea, eb, ec, ed, ee) refl

module _ (maker : Maker) (o : Order) (key : AlgKey) where
  one_written : (payload other_payload : Tree) (given other_given : List Given) (parts other : Parts) → payload ≡ other_payload → given ≡ other_given
      → IsWritten maker o (alg_text key.alg) (IsGood key) payload given parts → IsWritten maker o (alg_text key.alg) (IsGood key) other_payload other_given other → parts ≡ other
  one_written payload other_payload given other_given parts other same_payload same_given this that =
      let protected : parts.signed.protected ≡ other.signed.protected = this.protected ∙ sym that.protected in
      let body : parts.signed.payload ≡ other.signed.payload = this.body ∙ (ap (λ t. b64 (json_text (with_alg o.hash t))) same_payload ∙ sym that.body) in
      let signatures : this.signature ≡ that.signature = this.signed ∙ (ap₂ (λ (x y : Text). mac key x y) protected body ∙ sym that.signed) in
      let signature : parts.signed.signature ≡ other.signed.signature = this.signature_text ∙ (ap b64 signatures ∙ sym that.signature_text) in
      let disclosures : parts.disclosures ≡ other.disclosures = this.disclosures ∙ (ap (made_texts maker.disclosure 0) same_given ∙ sym that.disclosures) in
      let binding : parts.binding ≡ other.binding = this.unbound ∙ sym that.unbound in
      same_parts parts.signed.protected parts.signed.payload parts.signed.signature parts.disclosures parts.binding
      other.signed.protected other.signed.payload other.signed.signature other.disclosures other.binding protected body signature disclosures binding

  pub one_token : (parts other : Parts) → IsLaidOut maker o (alg_text key.alg) (IsGood key) parts → IsLaidOut maker o (alg_text key.alg) (IsGood key) other → parts ≡ other
  one_token parts other this that =
      one_written this.payload that.payload this.given that.given parts other
      (one_payload maker o this.payload that.payload this.given that.given this.digests that.digests this.laid that.laid)
      (one_given maker o this.payload that.payload this.given that.given this.digests that.digests this.laid that.laid)
      this.written that.written

  -- what is issued is not refused
  pub issued_not_refused : (parts : Parts) → NoneApplies (AppliesToOrder o) → HasNoClash maker o → IsLaidOut maker o (alg_text key.alg) (IsGood key) parts → length (compact parts) ≤ issue_max
      → NoneApplies (AppliesToIssue maker o (alg_text key.alg) (IsGood key))
  issued_not_refused parts none differ laid short error h = go error h
    where
      long : IsIssueTooLong maker o (alg_text key.alg) (IsGood key) → ⊥
      long h =
          let same = one_token h.parts parts h.laid laid in
          let more = h.long in
          omega (arith, short, more, ap (λ x. length (compact x)) same)

      go : (error : IssueError) → AppliesToIssue maker o (alg_text key.alg) (IsGood key) error → ⊥
      go (DigestClash i j) h = differ i j h
      go TooLong h = long h
      go error h = none error h

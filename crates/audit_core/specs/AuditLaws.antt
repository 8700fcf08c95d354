-- Not needed to believe the program's promises: what the laws say.
use Rattle.std.specs.Prelude.{◌≡◌, ℕ, List}
use Rattle.std.specs.Str.{IsUtf8}
use Rattle.b64url_text.specs.Base64url.{AreBytes}
use Rattle.claim_tree.specs.Tree.{Text, IsOrdered}
use Rattle.compact_form.specs.Compact.{compact}
use Rattle.refusals.specs.Lowest.{NoneApplies}
use Rattle.compact_form.specs.declared.parts.Parts.{Parts}
use Rattle.hmac_sign.specs.Algs.{alg_text}
use Rattle.hmac_sign.specs.Hmac.{AlgKey, IsGood}
use Rattle.hmac_sign.specs.Signatures.{Meaning}
use Rattle.json_form.specs.Alone.{alone}
use Rattle.json_form.specs.Token.{IsToken}
use Rattle.issuer_core.specs.GoodOrder.{EachText}
use Rattle.issuer_core.specs.Order.{Order}
use Rattle.issuer_core.specs.OrderRefusals.{AppliesToOrder}
use Rattle.issuer_core.specs.Seed.{maker_of}
use Rattle.issuer_core.specs.Written.{IsIssued}
use Rattle.audit_core.specs.declared.errors.AuditError.{AuditError}
use Rattle.audit_core.specs.Audit.{PassesAudit, FailsAudit}

-- what is issued with any seed for an order that nothing of 51 to 59 refuses, with a signature of
-- bytes, passes the audit, where its compact text is read as a token; texts and names of the claims
-- are UTF-8, as a machine holds them, since JSON with others is not read
abbrev pub IssuedPasses : Text → Meaning → Type 0
IssuedPasses alg good =
    (seed : List ℕ) (o : Order) (parts : Parts)
    → NoneApplies (AppliesToOrder o) → IsOrdered o.payload → EachText IsUtf8 o.payload
    → (issued : IsIssued (maker_of seed) o alg good parts) → AreBytes issued.written.signature
    → IsToken (compact parts) (alone parts) → PassesAudit o alg good (compact parts)

-- the same with the signature of a key
abbrev pub KeyIssuedPasses : AlgKey → Type 0
KeyIssuedPasses key =
    (seed : List ℕ) (o : Order) (parts : Parts)
    → NoneApplies (AppliesToOrder o) → IsOrdered o.payload → EachText IsUtf8 o.payload
    → IsIssued (maker_of seed) o (alg_text key.alg) (IsGood key) parts
    → IsToken (compact parts) (alone parts)
    → PassesAudit o (alg_text key.alg) (IsGood key) (compact parts)

-- a text passes, or one thing refuses it
pub record HasOneVerdict (o : Order) (alg : Text) (accepts : Meaning) (content : Text)
    : Type 0 where
  pub not_both : (error : AuditError) → PassesAudit o alg accepts content
      → FailsAudit o alg accepts content error → ⊥
  pub one_error : (error other : AuditError) → FailsAudit o alg accepts content error
      → FailsAudit o alg accepts content other → error ≡ other

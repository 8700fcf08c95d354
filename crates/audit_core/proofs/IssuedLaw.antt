-- What is issued passes the audit.
use Rattle.std.proofs.Common.{List, ℕ, IsUtf8, sym, subst}
use Rattle.b64url_text.specs.Base64url.{AreBytes}
use Rattle.claim_tree.specs.Tree.{Text, Tree}
use Rattle.compact_form.specs.declared.parts.Parts.{Parts}
use Rattle.digest_sites.specs.Given.{Given}
use Rattle.hmac_sign.specs.Algs.{alg_text}
use Rattle.hmac_sign.specs.Hmac.{AlgKey, IsGood}
use Rattle.hmac_sign.specs.Signatures.{Meaning}
use Rattle.hmac_sign.proofs.Macs.{AreBytes-mac}
use Rattle.json_form.specs.Alone.{alone}
use Rattle.issuer_core.specs.GoodOrder.{IsGoodOrder, EachText}
use Rattle.issuer_core.specs.Issued.{IsIssuedFor}
use Rattle.issuer_core.specs.Laid.{with_alg}
use Rattle.issuer_core.specs.Order.{Order}
use Rattle.issuer_core.specs.Seed.{maker_of}
use Rattle.issuer_core.specs.Written.{IsWritten}
use Rattle.issuer_core.proofs.Judged.{good_order}
use Rattle.audit_core.specs.Audited.{IsAudited, IsAuditedFor}
use Rattle.audit_core.specs.AuditLaws.{IssuedPasses, KeyIssuedPasses}
use Rattle.audit_core.proofs.IssuedDecoys.{has_decoys}
use Rattle.audit_core.proofs.IssuedDigests.{has_digests}
use Rattle.audit_core.proofs.IssuedWritten.{signed_for, shows_claims, bare, written_for}

audited_for : (seed : List ℕ) (o : Order) (alg : Text) (good : Meaning) (p : Tree) (g : List Given) (parts : Parts) → IsGoodOrder o → EachText IsUtf8 o.payload → IsIssuedFor (maker_of seed) o p g → IsWritten (maker_of seed) o alg good p g parts
    → IsAuditedFor o p g
audited_for seed o alg good p g parts fine utf8 issued written = record {
  shows = shows_claims seed o alg good p g parts fine utf8 issued written;
  digests = has_digests seed o p g fine issued;
  decoys = has_decoys seed o p g fine issued;
  sorted = record { in_payload = issued.payload_rises; in_values = issued.values_rise };
}

is_audited : (seed : List ℕ) (o : Order) (alg : Text) (good : Meaning) (p : Tree) (g : List Given) (parts : Parts) → IsGoodOrder o → EachText IsUtf8 o.payload → IsIssuedFor (maker_of seed) o p g
    → (written : IsWritten (maker_of seed) o alg good p g parts) → AreBytes written.signature → IsAudited o alg good (alone parts)
is_audited seed o alg good p g parts fine utf8 issued written bytes = record {
  signed = signed_for seed o alg good p g parts fine utf8 issued written bytes;
  body = with_alg o.hash p;
  given = g;
  written = written_for seed o alg good p g parts fine utf8 issued written;
  audited = subst (λ (t : Tree). IsAuditedFor o t g) (sym (bare seed o alg good p g parts fine utf8 issued written)) (audited_for seed o alg good p g parts fine utf8 issued written);
}

pub issued_passes_holds : (alg : Text) (good : Meaning) → IssuedPasses alg good
issued_passes_holds alg good seed o parts none ordered utf8 issued bytes is_token = record {
  passes = none;
  token = alone parts;
  is_token = is_token;
  audited = is_audited seed o alg good issued.payload issued.given parts (good_order o (λ error h. absurd (none error h)) ordered) utf8 issued.issued issued.written bytes;
}

pub key_issued_passes_holds : (key : AlgKey) → KeyIssuedPasses key
key_issued_passes_holds key seed o parts none ordered utf8 issued is_token =
    issued_passes_holds (alg_text key.alg) (IsGood key) seed o parts none ordered utf8 issued (subst AreBytes (sym issued.written.signed) (AreBytes-mac key parts.signed.protected parts.signed.payload)) is_token

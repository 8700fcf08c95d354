-- What is said of what an order asks for is said of the order.
use Rattle.std.proofs.Common.{ℕ, ◌≤◌, List, sym, ◌∙◌, subst, arith}
use Rattle.std.specs.List.{AllZip}
use Rattle.claim_tree.specs.Tree.{Text, Tree}
use Rattle.compact_form.specs.declared.parts.Parts.{Parts}
use Rattle.digest_sites.specs.Given.{Given}
use Rattle.disclosure.specs.declared.digests.HashAlg.{HashAlg}
use Rattle.hmac_sign.specs.Signatures.{Meaning}
use Rattle.json_form.specs.declared.token.Token.{Token}
use Rattle.issuer_core.specs.Order.{Order}
use Rattle.audit_core.specs.declared.asked.Asked.{Asked}
use Rattle.audit_core.specs.Asked.{IsAskedFor}
use Rattle.audit_core.specs.Audit.{DiffersIn, signed_differs, written_differs, content_differs, ContentDiffers, claims_differ, digests_differ, decoys_differ, order_differs}
use Rattle.audit_core.specs.Audited.{GivesSalted, IsSignedFor, IsWrittenFor}
use Rattle.audit_core.specs.AuditSteps.{NamesHash, IsWrittenWith}

pub written_for : (o : Order) (asked : Asked) (parts : Parts) (body : Tree) (given : List Given) → IsAskedFor o asked → IsWrittenWith asked.hash asked.hidden parts body given → IsWrittenFor o parts body given
written_for o asked parts body given is w = record {
  payload = w.payload;
  alg = subst (λ (h : HashAlg). NamesHash h body) is.hash w.alg;
  count = w.count ∙ is.hidden;
  disclosures = subst (λ (h : HashAlg). AllZip (GivesSalted h) parts.disclosures given) is.hash w.disclosures;
}

pub written_with : (o : Order) (asked : Asked) (parts : Parts) (body : Tree) (given : List Given) → IsAskedFor o asked → IsWrittenFor o parts body given → IsWrittenWith asked.hash asked.hidden parts body given
written_with o asked parts body given is w = record {
  payload = w.payload;
  alg = subst (λ (h : HashAlg). NamesHash h body) (sym is.hash) w.alg;
  count = w.count ∙ sym is.hidden;
  disclosures = subst (λ (h : HashAlg). AllZip (GivesSalted h) parts.disclosures given) (sym is.hash) w.disclosures;
}

late_content : {A : Type 0} (o : Order) (p : Tree) (g : List Given) (k : ℕ) → k ≤ 2 → ContentDiffers o p g k → A
late_content o p g k l (claims_differ e n) = absurd (omega (arith, l, e))
late_content o p g k l (digests_differ e s n) = absurd (omega (arith, l, e))
late_content o p g k l (decoys_differ e s d n) = absurd (omega (arith, l, e))
late_content o p g k l (order_differs e s d c n) = absurd (omega (arith, l, e))

-- what is signed and written as it is to be differs in no part before the third
pub not_early : {A : Type 0} (o : Order) (alg : Text) (accepts : Meaning) (token : Token) (body : Tree) (given : List Given) (k : ℕ) → IsSignedFor o alg accepts token → IsWrittenFor o token.parts body given
    → k ≤ 2 → DiffersIn o alg accepts token k → A
not_early o alg accepts token body given k signed written l (signed_differs e n) = absurd (n signed)
not_early o alg accepts token body given k signed written l (written_differs e s n) = absurd (n body given written)
not_early o alg accepts token body given k signed written l (content_differs s p g w d) = late_content o _ g k l d

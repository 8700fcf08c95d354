-- Why a token is not what an order asks for: the first that applies of what refuses it.
use Rattle.std.specs.Prelude.{◌≡◌, ℕ, List}
use Rattle.claim_tree.specs.Tree.{Text, Tree}
use Rattle.refusals.specs.Lowest.{NoneApplies}
use Rattle.refusals.specs.declared.fault.Fault.{Fault}
use Rattle.digest_sites.specs.Given.{Given}
use Rattle.hmac_sign.specs.Signatures.{Meaning}
use Rattle.json_form.specs.Token.{IsToken, IsTextRefused}
use Rattle.json_form.specs.declared.token.Token.{Token}
use Rattle.rebuild_core.specs.Payload.{without_alg}
use Rattle.issuer_core.specs.declared.errors.IssueError.{IssueError}
use Rattle.issuer_core.specs.Order.{Order}
use Rattle.issuer_core.specs.OrderRefusals.{AppliesToOrder, IsLowestRefusal, issue_number}
use Rattle.audit_core.specs.declared.errors.AuditError.{AuditError}
use Rattle.audit_core.specs.declared.errors.AuditError.TheVariants.{Order as OnOrder, Token as OnCondition, Part}
use Rattle.audit_core.specs.Audited.{IsSignedFor, IsWrittenFor, ShowsClaims, HasDigests, HasDecoys, HasSortedDigests, IsAudited}

-- nothing of 51 to 59 refuses the order, and the text is what it asks for
pub record PassesAudit (o : Order) (alg : Text) (accepts : Meaning) (content : Text) : Type 0 where
  pub passes : NoneApplies (AppliesToOrder o)
  pub token : Token
  pub is_token : IsToken content token
  pub audited : IsAudited o alg accepts token

-- the first that is not so of what is written
pub data ContentDiffers (o : Order) (payload : Tree) (given : List Given) (k : ℕ) : Type 0 where
  claims_differ : k ≡ 3 → (ShowsClaims o payload given → ⊥) → ContentDiffers o payload given k
  digests_differ : k ≡ 4 → ShowsClaims o payload given → (HasDigests o payload given → ⊥)
      → ContentDiffers o payload given k
  decoys_differ : k ≡ 5 → ShowsClaims o payload given → HasDigests o payload given
      → (HasDecoys o payload given → ⊥) → ContentDiffers o payload given k
  order_differs : k ≡ 6 → ShowsClaims o payload given → HasDigests o payload given
      → HasDecoys o payload given → (HasSortedDigests payload given → ⊥)
      → ContentDiffers o payload given k

-- the first of the six that is not so of the token: of how it is signed and
-- written, and then of what is written
pub data DiffersIn (o : Order) (alg : Text) (accepts : Meaning) (token : Token) (k : ℕ)
    : Type 0 where
  signed_differs : k ≡ 1 → (IsSignedFor o alg accepts token → ⊥) → DiffersIn o alg accepts token k
  written_differs : k ≡ 2 → IsSignedFor o alg accepts token
      → ((body : Tree) (given : List Given) → IsWrittenFor o token.parts body given → ⊥)
      → DiffersIn o alg accepts token k
  content_differs : IsSignedFor o alg accepts token → (body : Tree) (given : List Given)
      → IsWrittenFor o token.parts body given → ContentDiffers o (without_alg body) given k
      → DiffersIn o alg accepts token k

-- this refuses the text, and nothing before it does
pub data FailsAudit (o : Order) (alg : Text) (accepts : Meaning) (content : Text)
    (error : AuditError) : Type 0 where
  of_order : (refusal : IssueError) → IsLowestRefusal (AppliesToOrder o) refusal
      → error ≡ OnOrder (issue_number refusal) → FailsAudit o alg accepts content error
  of_text : (fault : Fault) → NoneApplies (AppliesToOrder o) → IsTextRefused content fault
      → error ≡ OnCondition fault → FailsAudit o alg accepts content error
  of_part : (token : Token) (k : ℕ) → NoneApplies (AppliesToOrder o) → IsToken content token
      → DiffersIn o alg accepts token k → error ≡ Part k → FailsAudit o alg accepts content error

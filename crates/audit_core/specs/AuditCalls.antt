-- Not needed to believe the program's promises: what an audit answers, and how
-- many digests it looks up.
use Rattle.std.specs.Prelude.{◌≡◌, ◌⊎◌, ◌≤◌, ℕ, List, Result, Ok, Err}
use Rattle.claim_tree.specs.Tree.{Text, Tree}
use Rattle.refusals.specs.declared.fault.Fault.{Fault}
use Rattle.digest_sites.specs.Given.{Given}
use Rattle.hmac_sign.specs.Signatures.{Meaning}
use Rattle.json_form.specs.Token.{IsToken, IsTextRefused}
use Rattle.json_form.specs.declared.token.Token.{Token}
use Rattle.rebuild_core.specs.LookUps.{look_ups, counted, RoseWithin}
use Rattle.rebuild_core.specs.Payload.{without_alg}
use Rattle.rebuild_core.specs.Soundness.{IsSound}
use Rattle.issuer_core.specs.declared.errors.IssueError.{IssueError}
use Rattle.issuer_core.specs.Order.{Order}
use Rattle.issuer_core.specs.OrderRefusals.{AppliesToOrder}
use Rattle.audit_core.specs.declared.errors.AuditError.{AuditError}
use Rattle.audit_core.specs.declared.errors.AuditError.TheVariants.{Memory, Order as OnOrder, Token as OnCondition, Part}
use Rattle.audit_core.specs.Audited.{IsSignedFor, IsWrittenFor}
use Rattle.audit_core.specs.Audit.{FailsAudit}

-- why a text does not pass; want of memory says nothing
abbrev pub IsAuditRefused : Order → Text → Meaning → Text → AuditError → Type 0
IsAuditRefused o alg accepts content Memory = Unit {0}
IsAuditRefused o alg accepts content error = FailsAudit o alg accepts content error

-- what refuses a text before anything is looked up
abbrev pub IsBeforeOpening : AuditError → Type 0
IsBeforeOpening Memory = ⊥
IsBeforeOpening (OnOrder k) = Unit {0}
IsBeforeOpening (OnCondition fault) = Unit {0}
IsBeforeOpening (Part k) = k ≤ 2

-- the look-ups: none, or no more than those of the token's own payload and disclosures
abbrev pub IsAuditedWithin : Order → Text → ℕ → ℕ → Type 0
IsAuditedWithin o content old new =
    (new ≡ old)
    ⊎
    ((token : Token) × IsToken content token × (body : Tree) × (given : List Given)
    × IsWrittenFor o token.parts body given
    × RoseWithin (look_ups (without_alg body) given) old new)

-- what is so from this part on: the text passes, or this part or a later one differs
abbrev pub FromPart : {A : Type 0} → ℕ → Result A AuditError → Type 0 → Type 0
FromPart first (Ok _) P = P
FromPart first (Err (Part k)) P = first ≤ k → P
FromPart first (Err _) P = Unit {0}

-- the look-ups: exactly those of the token's own payload and disclosures
abbrev pub IsAuditCounted : Order → Text → ℕ → ℕ → Type 0
IsAuditCounted o content old new =
    (token : Token) × IsToken content token × (body : Tree) × (given : List Given)
    × IsWrittenFor o token.parts body given
    × (new ≡ counted old (look_ups (without_alg body) given))

-- the same, where payload and disclosures meet the conditions 14 to 21
abbrev pub IsSoundCounted : Order → Text → ℕ → ℕ → Type 0
IsSoundCounted o content old new =
    (token : Token) × IsToken content token × (body : Tree) × (given : List Given)
    × IsWrittenFor o token.parts body given
    × (IsSound (without_alg body) given → new ≡ counted old (look_ups (without_alg body) given))

-- the text is not opened: one of these refuses it, the first or not
pub data IsAuditUnopened (o : Order) (alg : Text) (accepts : Meaning) (content : Text)
    : Type 0 where
  order_refused : (refusal : IssueError) → AppliesToOrder o refusal
      → IsAuditUnopened o alg accepts content
  no_token : (fault : Fault) → IsTextRefused content fault → IsAuditUnopened o alg accepts content
  not_signed : (token : Token) → IsToken content token → (IsSignedFor o alg accepts token → ⊥)
      → IsAuditUnopened o alg accepts content
  not_written : (token : Token) → IsToken content token
      → ((body : Tree) (given : List Given) → IsWrittenFor o token.parts body given → ⊥)
      → IsAuditUnopened o alg accepts content

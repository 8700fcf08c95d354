-- How many digests an audit looks up: from its steps to its answer.
use Rattle.std.proofs.Common.{◌≡◌, ℕ, ◌≤◌, List, inl, inr, subst, arith}
use Rattle.std.specs.Prelude.{Result, Ok, Err, OnOk, IfErr}
use Rattle.claim_tree.specs.Tree.{Text, Tree}
use Rattle.refusals.specs.Lowest.{NoneApplies}
use Rattle.digest_sites.specs.Given.{Given}
use Rattle.hmac_sign.specs.Signatures.{Meaning}
use Rattle.json_form.specs.Token.{IsToken}
use Rattle.json_form.specs.declared.token.Token.{Token}
use Rattle.json_form.proofs.Tokens.{one as one_token, not_both}
use Rattle.issuer_core.specs.Order.{Order}
use Rattle.issuer_core.specs.OrderRefusals.{AppliesToOrder}
use Rattle.rebuild_core.specs.Soundness.{IsSound}
use Rattle.audit_core.specs.declared.errors.AuditError.{AuditError}
use Rattle.audit_core.specs.declared.errors.AuditError.TheVariants.{Memory, Order as OnOrder, Token as OnCondition, Part}
use Rattle.audit_core.specs.Audited.{IsSignedFor, IsWrittenFor, IsAuditedFor}
use Rattle.audit_core.specs.Audit.{FailsAudit, ContentDiffers, claims_differ, digests_differ, decoys_differ, order_differs}
use Rattle.audit_core.specs.AuditCalls.{IsAuditRefused, IsBeforeOpening, FromPart, IsAuditCounted, IsSoundCounted, IsAuditedWithin, IsAuditUnopened, order_refused, no_token, not_signed, not_written}
use Rattle.audit_core.specs.AuditSteps.{IsTokenCounted, IsTokenSoundCounted, IsTokenWithin, OnPart, OnOrderRefused}

-- ---- from a part on

-- what is so whatever is answered
pub from_part : {A : Type 0} (first : ℕ) (r : Result A AuditError) (P : Type 0) → P → FromPart first r P
from_part first (Ok x) P h = h
from_part first (Err Memory) P h = tt
from_part first (Err (OnOrder k)) P h = tt
from_part first (Err (OnCondition fault)) P h = tt
from_part first (Err (Part k)) P h = λ late. h

pub from_part_more : {A : Type 0} (first : ℕ) (r : Result A AuditError) (P Q : Type 0) → (P → Q) → FromPart first r P → FromPart first r Q
from_part_more first (Ok x) P Q more h = more h
from_part_more first (Err Memory) P Q more h = tt
from_part_more first (Err (OnOrder k)) P Q more h = tt
from_part_more first (Err (OnCondition fault)) P Q more h = tt
from_part_more first (Err (Part k)) P Q more h = λ late. more (h late)

-- no part differs where the order is refused
pub order_from_part : (A : Type 0) (first : ℕ) (e : AuditError) (o : Order) (P : Type 0) → OnOrderRefused e o → FromPart {A = A} first (Err e) P
order_from_part A first Memory o P h = tt
order_from_part A first (OnOrder k) o P h = tt
order_from_part A first (OnCondition fault) o P h = tt
order_from_part A first (Part k) o P h = absurd h

-- ---- where the claims are shown

late_sound : (o : Order) (p : Tree) (g : List Given) (k : ℕ) → 4 ≤ k → ContentDiffers o p g k → IsSound p g
late_sound o p g k late (claims_differ e n) = absurd (omega (arith, late, e))
late_sound o p g k late (digests_differ e s n) = s.sound
late_sound o p g k late (decoys_differ e s d n) = s.sound
late_sound o p g k late (order_differs e s d c n) = s.sound

pub shown_counted : {A : Type 0} (o : Order) (p : Tree) (g : List Given) (r : Result A AuditError) (P : Type 0) → OnOk r (IsAuditedFor o p g) → IfErr r (λ e. OnPart e (ContentDiffers o p g))
    → FromPart 3 r (IsSound p g → P) → FromPart 4 r P
shown_counted o p g (Ok x) P audited differs h = h audited.shows.sound
shown_counted o p g (Err Memory) P audited differs h = tt
shown_counted o p g (Err (OnOrder k)) P audited differs h = tt
shown_counted o p g (Err (OnCondition fault)) P audited differs h = tt
shown_counted o p g (Err (Part k)) P audited differs h = λ late. h (omega (arith, late)) (late_sound o p g k late differs)

-- ---- from a token to the text that is read as it

module _ (o : Order) (content : Text) (token : Token) (is : IsToken content token) (old new : ℕ) where
  pub token_counted : IsTokenCounted o token old new → IsAuditCounted o content old new
  token_counted (body, given, written, many) = (token, is, body, given, written, many)

  pub token_sound_counted : IsTokenSoundCounted o token old new → IsSoundCounted o content old new
  token_sound_counted (body, given, written, many) = (token, is, body, given, written, many)

  pub token_within : IsTokenWithin o token old new → IsAuditedWithin o content old new
  token_within (inl same) = inl same
  token_within (inr (body, given, written, rose)) = inr (token, is, body, given, written, rose)

-- ---- before anything is looked up

module _ (o : Order) (alg : Text) (accepts : Meaning) (content : Text) (same : Type 0) where
  pub none_yet : ((error : AuditError) → IsBeforeOpening error → FailsAudit o alg accepts content error → same) → (e : AuditError) → IsAuditRefused o alg accepts content e → IsBeforeOpening e → same
  none_yet uncounted Memory h early = absurd early
  none_yet uncounted (OnOrder k) h early = uncounted (OnOrder k) early h
  none_yet uncounted (OnCondition fault) h early = uncounted (OnCondition fault) early h
  none_yet uncounted (Part k) h early = uncounted (Part k) early h

  pub unopened : (token : Token) → NoneApplies (AppliesToOrder o) → IsToken content token → ((IsSignedFor o alg accepts token → ⊥) → same)
      → (((body : Tree) (given : List Given) → IsWrittenFor o token.parts body given → ⊥) → same) → IsAuditUnopened o alg accepts content → same
  unopened token passes is unsigned unwritten (order_refused refusal applies) = absurd (passes refusal applies)
  unopened token passes is unsigned unwritten (no_token fault refused) = absurd (not_both content token fault is refused)
  unopened token passes is unsigned unwritten (not_signed other read fails) = unsigned (subst (λ (t : Token). IsSignedFor o alg accepts t → ⊥) (one_token content other token read is) fails)
  unopened token passes is unsigned unwritten (not_written other read fails) =
      unwritten (subst (λ (t : Token). (body : Tree) (given : List Given) → IsWrittenFor o t.parts body given → ⊥) (one_token content other token read is) fails)

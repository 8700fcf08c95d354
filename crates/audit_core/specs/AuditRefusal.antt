-- The line that tells why a token is not what an order asks for.
use Rattle.std.specs.Prelude.{ℕ, zero, suc, Option, None, Some}
use Rattle.claim_tree.specs.Tree.{Text}
use Rattle.refusals.specs.declared.fault.Place.{Place}
use Rattle.refusals.specs.declared.fault.Place.TheVariants.{Nowhere, At}
use Rattle.refusals.specs.declared.refusal.Refusal.{Refusal}
use Rattle.refusals.specs.Faults.{failed_of}
use Rattle.refusals.specs.RefusedText.{place_text, told_text}
use Rattle.audit_core.specs.declared.errors.AuditError.{AuditError}
use Rattle.audit_core.specs.declared.errors.AuditError.TheVariants.{Memory, Order as OnOrder, Token as OnCondition, Part}

-- the refusal of each part, counted from 1
abbrev pub part_refusal : ℕ → Option Refusal
part_refusal (suc zero) = Some Refusal.SignedPartDiffers
part_refusal (suc (suc zero)) = Some Refusal.WrittenFormDiffers
part_refusal (suc (suc (suc zero))) = Some Refusal.PayloadDiffers
part_refusal (suc (suc (suc (suc zero)))) = Some Refusal.DigestsDiffer
part_refusal (suc (suc (suc (suc (suc zero))))) = Some Refusal.DecoysDiffer
part_refusal (suc (suc (suc (suc (suc (suc zero)))))) = Some Refusal.SdOrderDiffers
part_refusal _ = None

-- the refusal that the error is, where it is one
abbrev pub audit_refusal : AuditError → Option Refusal
audit_refusal Memory = None
audit_refusal (OnOrder k) = Some Refusal.OrderRefused
audit_refusal (OnCondition fault) = Some (Refusal.Condition (failed_of fault))
audit_refusal (Part k) = part_refusal k

-- of an order the number of what refuses it
abbrev pub audit_place : AuditError → Place
audit_place (OnOrder k) = At k
audit_place (OnCondition fault) = fault.place
audit_place _ = Nowhere

-- the line of a refusal, without its line end; what is no refusal has none
abbrev pub audit_refusal_text : AuditError → Text
audit_refusal_text error = told_text (audit_refusal error) (place_text (audit_place error))

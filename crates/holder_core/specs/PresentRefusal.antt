-- The line that tells why nothing is presented.
use Rattle.std.specs.Prelude.{Option, None, Some}
use Rattle.claim_tree.specs.Tree.{Text}
use Rattle.refusals.specs.declared.fault.Place.{Place}
use Rattle.refusals.specs.declared.fault.Place.TheVariants.{Nowhere, At}
use Rattle.refusals.specs.declared.refusal.Refusal.{Refusal}
use Rattle.refusals.specs.Faults.{failed_of}
use Rattle.refusals.specs.RefusedText.{place_text, told_text}
use Rattle.holder_core.specs.declared.errors.PresentError.{PresentError}
use Rattle.holder_core.specs.declared.errors.PresentError.TheVariants.{Memory, Token as OnCondition, HasBinding, NoSuchPlace, ConsentRefused, BindingKeyDiffers, SignFailed, TooLong}

-- the refusal that the error is, where it is one
abbrev pub present_refusal : PresentError → Option Refusal
present_refusal Memory = None
present_refusal SignFailed = None
present_refusal (OnCondition fault) = Some (Refusal.Condition (failed_of fault))
present_refusal HasBinding = Some Refusal.HasBinding
present_refusal (NoSuchPlace k) = Some Refusal.WantedNotThere
present_refusal (ConsentRefused i) = Some Refusal.ConsentRefused
present_refusal BindingKeyDiffers = Some Refusal.BindingKeyDiffers
present_refusal TooLong = Some Refusal.PresentTooLong

abbrev pub present_place : PresentError → Place
present_place (OnCondition fault) = fault.place
present_place (NoSuchPlace k) = At k
present_place (ConsentRefused i) = At i
present_place _ = Nowhere

-- the line of a refusal, without its line end; what is no refusal has none
abbrev pub present_refusal_text : PresentError → Text
present_refusal_text error = told_text (present_refusal error) (place_text (present_place error))

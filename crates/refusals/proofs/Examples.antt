-- Worked values, by the definitions: lines that tell of a refusal.
use Rattle.std.proofs.Common.{◌≡◌, None, codes, refl}
use Rattle.std.specs.Fmt.{digits}
use Rattle.refusals.specs.declared.condition.Condition.{Condition}
use Rattle.refusals.specs.declared.fault.JsonPlace.{JsonPlace}
use Rattle.refusals.specs.declared.fault.Part.{Part}
use Rattle.refusals.specs.declared.fault.Place.TheVariants.{Json}
use Rattle.refusals.specs.Faults.{fault_at, unplaced, placed}
use Rattle.refusals.specs.declared.refusal.Refusal.{Refusal}
use Rattle.refusals.specs.RefusedText.{refused_text, fault_text}

no_place : fault_text (unplaced Condition.Expired) ≡ codes "refused 25 expired"
unfolding digits
no_place = refl

a_place : fault_text (placed Condition.ClaimMissing 10) ≡ codes "refused 23 claimMissing at 10"
unfolding digits
a_place = refl

a_member : fault_text (fault_at Condition.Form (Json (JsonPlace.Missing Part.KbJwt))) ≡ codes "refused 2 form at missing kb_jwt"
unfolding digits
a_member = refl

a_refusal : refused_text Refusal.FeedTooLong None ≡ codes "refused 87 feedTooLong"
unfolding digits
a_refusal = refl

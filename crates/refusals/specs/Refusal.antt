-- The refusals: their numbers and their printed names.
use Rattle.std.specs.Prelude.{ℕ, List, codes}
use Rattle.refusals.specs.declared.refusal.Refusal.{Refusal}
use Rattle.refusals.specs.Condition.{number_of, name_of}

-- its number and its name
abbrev pub refusal_row : Refusal → ℕ × List ℕ
refusal_row (Refusal.Condition condition) = (number_of condition, name_of condition)
refusal_row Refusal.PayloadNotObject = (51, codes "payloadNotObject")
refusal_row Refusal.ReservedInPayload = (52, codes "reservedInPayload")
refusal_row Refusal.PayloadTooDeep = (53, codes "payloadTooDeep")
refusal_row Refusal.RootMarked = (54, codes "rootMarked")
refusal_row Refusal.NoSuchPlace = (55, codes "noSuchPlace")
refusal_row Refusal.ProtectedClaim = (56, codes "protectedClaim")
refusal_row Refusal.DecoyPlace = (57, codes "decoyPlace")
refusal_row Refusal.TooManyHidden = (58, codes "tooManyHidden")
refusal_row Refusal.TooManyDecoys = (59, codes "tooManyDecoys")
refusal_row Refusal.DigestClash = (60, codes "digestClash")
refusal_row Refusal.IssueTooLong = (61, codes "issueTooLong")
refusal_row Refusal.HasBinding = (71, codes "hasBinding")
refusal_row Refusal.WantedNotThere = (72, codes "wantedNotThere")
refusal_row Refusal.ConsentRefused = (73, codes "consentRefused")
refusal_row Refusal.BindingKeyDiffers = (74, codes "bindingKeyDiffers")
refusal_row Refusal.PresentTooLong = (75, codes "presentTooLong")
refusal_row Refusal.NoCredentialAnswers = (77, codes "noCredentialAnswers")
refusal_row Refusal.OrderRefused = (80, codes "orderRefused")
refusal_row Refusal.SignedPartDiffers = (81, codes "signedPartDiffers")
refusal_row Refusal.WrittenFormDiffers = (82, codes "writtenFormDiffers")
refusal_row Refusal.PayloadDiffers = (83, codes "payloadDiffers")
refusal_row Refusal.DigestsDiffer = (84, codes "digestsDiffer")
refusal_row Refusal.DecoysDiffer = (85, codes "decoysDiffer")
refusal_row Refusal.SdOrderDiffers = (86, codes "sdOrderDiffers")
refusal_row Refusal.FeedTooLong = (87, codes "feedTooLong")

abbrev pub refusal_number : Refusal → ℕ
refusal_number refusal = (refusal_row refusal).0

abbrev pub refusal_name : Refusal → List ℕ
refusal_name refusal = (refusal_row refusal).1

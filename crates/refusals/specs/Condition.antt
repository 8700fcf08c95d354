-- The conditions of a verifier, in the order in which they are judged, with
-- their numbers and printed names.
use Rattle.std.specs.Prelude.{ℕ, List, codes}
use Rattle.refusals.specs.declared.condition.Condition.{Condition}

-- its number and its name
abbrev pub condition_row : Condition → ℕ × List ℕ
condition_row Condition.TooLong = (1, codes "tooLong")
condition_row Condition.Form = (2, codes "form")
condition_row Condition.TooMuch = (3, codes "tooMuch")
condition_row Condition.BindingMissing = (4, codes "bindingMissing")
condition_row Condition.HeaderUnreadable = (5, codes "headerUnreadable")
condition_row Condition.HeaderCritical = (6, codes "headerCritical")
condition_row Condition.AlgRefused = (7, codes "algRefused")
condition_row Condition.TypeRefused = (8, codes "typeRefused")
condition_row Condition.IssuerKeyUnknown = (9, codes "issuerKeyUnknown")
condition_row Condition.BadSignature = (10, codes "badSignature")
condition_row Condition.PayloadUnreadable = (11, codes "payloadUnreadable")
condition_row Condition.HashUnknown = (12, codes "hashUnknown")
condition_row Condition.DisclosureUnreadable = (13, codes "disclosureUnreadable")
condition_row Condition.RepeatedDisclosure = (14, codes "repeatedDisclosure")
condition_row Condition.ReservedMisused = (15, codes "reservedMisused")
condition_row Condition.RepeatedDigest = (16, codes "repeatedDigest")
condition_row Condition.UnreferencedDisclosure = (17, codes "unreferencedDisclosure")
condition_row Condition.WrongShape = (18, codes "wrongShape")
condition_row Condition.ReservedName = (19, codes "reservedName")
condition_row Condition.NameClash = (20, codes "nameClash")
condition_row Condition.TooDeep = (21, codes "tooDeep")
condition_row Condition.IssuerRefused = (22, codes "issuerRefused")
condition_row Condition.ClaimMissing = (23, codes "claimMissing")
condition_row Condition.TimeUnreadable = (24, codes "timeUnreadable")
condition_row Condition.Expired = (25, codes "expired")
condition_row Condition.NotYet = (26, codes "notYet")
condition_row Condition.HolderKeyUnknown = (27, codes "holderKeyUnknown")
condition_row Condition.BindingHeader = (28, codes "bindingHeader")
condition_row Condition.BindingAlg = (29, codes "bindingAlg")
condition_row Condition.BindingSignature = (30, codes "bindingSignature")
condition_row Condition.BindingType = (31, codes "bindingType")
condition_row Condition.BindingPayload = (32, codes "bindingPayload")
condition_row Condition.BindingStale = (33, codes "bindingStale")
condition_row Condition.BindingEarly = (34, codes "bindingEarly")
condition_row Condition.NonceDiffers = (35, codes "nonceDiffers")
condition_row Condition.AudienceDiffers = (36, codes "audienceDiffers")
condition_row Condition.HashDiffers = (37, codes "hashDiffers")
condition_row Condition.BindingTime = (38, codes "bindingTime")

abbrev pub number_of : Condition → ℕ
number_of condition = (condition_row condition).0

abbrev pub name_of : Condition → List ℕ
name_of condition = (condition_row condition).1

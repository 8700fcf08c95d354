-- For the prover, which needs it for the fault: at most one condition has a number.
use Rattle.std.specs.Prelude.{◌≡◌, ℕ, ◌==◌, List, [], ◌∷◌, find, Option, Some, refl}
use Rattle.std.proofs.Common.{ap, sym, ◌∙◌}
use mathlib.Core.HLevel.{Σ_prop_path}
use Rattle.std.proofs.Math.Nat.{ℕ_set}
use Rattle.refusals.specs.declared.condition.Condition.{Condition}
use Rattle.refusals.specs.Condition.{number_of}

abbrev conditions : List Condition
conditions =
    Condition.TooLong
    ∷ Condition.Form
    ∷ Condition.TooMuch
    ∷ Condition.BindingMissing
    ∷ Condition.HeaderUnreadable
    ∷ Condition.HeaderCritical
    ∷ Condition.AlgRefused
    ∷ Condition.TypeRefused
    ∷ Condition.IssuerKeyUnknown
    ∷ Condition.BadSignature
    ∷ Condition.PayloadUnreadable
    ∷ Condition.HashUnknown
    ∷ Condition.DisclosureUnreadable
    ∷ Condition.RepeatedDisclosure
    ∷ Condition.ReservedMisused
    ∷ Condition.RepeatedDigest
    ∷ Condition.UnreferencedDisclosure
    ∷ Condition.WrongShape
    ∷ Condition.ReservedName
    ∷ Condition.NameClash
    ∷ Condition.TooDeep
    ∷ Condition.IssuerRefused
    ∷ Condition.ClaimMissing
    ∷ Condition.TimeUnreadable
    ∷ Condition.Expired
    ∷ Condition.NotYet
    ∷ Condition.HolderKeyUnknown
    ∷ Condition.BindingHeader
    ∷ Condition.BindingAlg
    ∷ Condition.BindingSignature
    ∷ Condition.BindingType
    ∷ Condition.BindingPayload
    ∷ Condition.BindingStale
    ∷ Condition.BindingEarly
    ∷ Condition.NonceDiffers
    ∷ Condition.AudienceDiffers
    ∷ Condition.HashDiffers
    ∷ Condition.BindingTime
    ∷ []

-- the condition with this number, if there is one
abbrev pub condition_of : ℕ → Option Condition
condition_of number = find (λ condition. number_of condition == number) conditions

-- each condition is found under its number
pub numbered : (condition : Condition) → condition_of (number_of condition) ≡ Some condition
numbered Condition.TooLong = refl
numbered Condition.Form = refl
numbered Condition.TooMuch = refl
numbered Condition.BindingMissing = refl
numbered Condition.HeaderUnreadable = refl
numbered Condition.HeaderCritical = refl
numbered Condition.AlgRefused = refl
numbered Condition.TypeRefused = refl
numbered Condition.IssuerKeyUnknown = refl
numbered Condition.BadSignature = refl
numbered Condition.PayloadUnreadable = refl
numbered Condition.HashUnknown = refl
numbered Condition.DisclosureUnreadable = refl
numbered Condition.RepeatedDisclosure = refl
numbered Condition.ReservedMisused = refl
numbered Condition.RepeatedDigest = refl
numbered Condition.UnreferencedDisclosure = refl
numbered Condition.WrongShape = refl
numbered Condition.ReservedName = refl
numbered Condition.NameClash = refl
numbered Condition.TooDeep = refl
numbered Condition.IssuerRefused = refl
numbered Condition.ClaimMissing = refl
numbered Condition.TimeUnreadable = refl
numbered Condition.Expired = refl
numbered Condition.NotYet = refl
numbered Condition.HolderKeyUnknown = refl
numbered Condition.BindingHeader = refl
numbered Condition.BindingAlg = refl
numbered Condition.BindingSignature = refl
numbered Condition.BindingType = refl
numbered Condition.BindingPayload = refl
numbered Condition.BindingStale = refl
numbered Condition.BindingEarly = refl
numbered Condition.NonceDiffers = refl
numbered Condition.AudienceDiffers = refl
numbered Condition.HashDiffers = refl
numbered Condition.BindingTime = refl

-- two conditions with the same number are equal
pub one_condition : (a b : Condition) → number_of a ≡ number_of b → a ≡ b
one_condition a b same =
    let both : Some a ≡ Some b = sym (numbered a) ∙ (ap condition_of same ∙ numbered b) in cc both

-- so a number has at most one
pub one_numbered : (n : ℕ) → IsProp ((condition : Condition) × (n ≡ number_of condition))
one_numbered n a b =
    Σ_prop_path (λ condition. ℕ_set n (number_of condition)) (one_condition a.0 b.0 (sym a.1 ∙ b.1))

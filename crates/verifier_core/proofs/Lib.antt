pub mod LeastPlaces
pub mod ClaimSteps
pub mod Policies
pub mod PolicyVersions
mod PolicyFaults
mod VersionTwo
pub mod TokenConditions
pub mod CheckSteps
pub mod CheckTests
pub mod Verdicts
pub mod Contents
mod ReadFaults
pub mod OneVerdict
pub mod SameVerdict
pub mod ContentFacts
pub mod Bounds
mod Examples
pub mod BindingPolicies
pub mod Asked
pub mod HolderAsked
pub mod Judgements
pub mod JudgeSteps
mod HeaderSaid
mod Answered
pub mod ByMeaning
mod StaysAsked

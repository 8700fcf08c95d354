pub mod HeldFacts
pub mod Picking
pub mod Steps
pub mod WholeToken
pub mod OneObject
pub mod PresentOrders
pub mod PresentFiles
pub mod OnePresentation
pub mod PickedNumbers
pub mod OtherRules
pub mod SignedLater
pub mod TwoSteps
pub mod UnsignedPresents
mod AskedUncounted

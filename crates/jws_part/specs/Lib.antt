pub mod Part
pub mod Header
pub mod Times
pub mod HeaderSteps
pub mod BodySteps

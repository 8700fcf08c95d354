pub mod Letters
pub mod Words
pub mod Codes
pub mod Texts
mod Sixes
mod LaneRuns
mod LookUps
mod Examples
pub mod Lengths
pub mod PlainLetters

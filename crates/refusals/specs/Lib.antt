pub mod Condition
pub mod Numbered
pub mod Faults
pub mod Lowest
pub mod PartWords
pub mod Refusal
pub mod RefusedText
pub mod Passing

mod FrontWords
mod Fronts
mod Built
mod Runs
mod Cuts
mod Stops
mod Steps
mod Spelled
mod JwtTexts
pub mod Unique
pub mod Verdicts
mod GatheredParts
mod Absent
pub mod Printed
pub mod Trimmed
pub mod Examples
mod NextPieces

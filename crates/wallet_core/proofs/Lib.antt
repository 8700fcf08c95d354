pub mod Sames
pub mod Choices
pub mod Bests
pub mod Bounds
pub mod Carried
pub mod Fetched
pub mod WordsApart
pub mod QueryFaults
mod OneQuery
mod OnePick
mod OneAnswer

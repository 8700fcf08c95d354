pub mod Walks
pub mod Sames
pub mod Sorteds
pub mod ClosedPlaces
pub mod Alikes
pub mod Founds
pub mod Soundness
pub mod Loops
mod Stranges
mod Counting
pub mod Wanteds
mod Salts
mod Unwritten
pub mod Writtens
pub mod Contents
mod NoOthers
pub mod Parts
pub mod Verdicts
mod Askeds
mod LookedUp
mod Answering
mod OneAnswer
pub mod IssuedHashes
pub mod IssuedWritten
pub mod IssuedDigests
pub mod IssuedDecoys
pub mod IssuedLaw
mod Examples

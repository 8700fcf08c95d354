pub mod Cuts
pub mod FeedVerdicts
pub mod Told
pub mod Fronts
pub mod Ends
pub mod Answering
pub mod AnyCut
pub mod Endings
pub mod Pumping
pub mod Completes
mod Stopping

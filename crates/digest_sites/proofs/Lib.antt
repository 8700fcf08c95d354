pub mod Moved
pub mod OneGiven
mod Found
mod Examples

pub mod HashNames
pub mod Arrays
pub mod ReadBack
pub mod Verdicts
mod Unread
pub mod Examples

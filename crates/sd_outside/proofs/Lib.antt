mod Files
pub mod Lists
pub mod Membership
mod Writes

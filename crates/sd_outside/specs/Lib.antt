pub mod Causes
pub mod Limits
pub mod Lists
pub mod Memory
pub mod Status

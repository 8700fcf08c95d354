pub mod Numbers
pub mod Lowest
mod Examples

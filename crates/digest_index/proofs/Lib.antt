pub mod Positions
pub mod Interned
mod Keys
mod Examples

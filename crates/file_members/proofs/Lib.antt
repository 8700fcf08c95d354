pub mod FileMembers
pub mod FileVerdicts

pub mod Claim
pub mod Token

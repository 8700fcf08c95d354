pub mod Base64url
pub mod NotBase64
pub mod Lanes
pub mod Room

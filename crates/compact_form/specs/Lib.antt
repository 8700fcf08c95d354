pub mod Compact
pub mod Trim
pub mod CompactToken
pub mod Views
pub mod Reading
pub mod JwtCalls

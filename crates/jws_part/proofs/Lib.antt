pub mod Parts
pub mod Headers
pub mod ReadBack
pub mod Examples

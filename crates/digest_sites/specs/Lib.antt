pub mod Reserved
pub mod Sites
pub mod Walk
pub mod Given
pub mod Code
pub mod GivenView
pub mod SiteCalls

pub mod PathWalks
pub mod Wanted
pub mod Asking
pub mod NeverShown
pub mod OutermostPaths

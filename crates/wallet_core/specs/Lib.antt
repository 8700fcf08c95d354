pub mod QueryFile
pub mod Usable
pub mod Meets
pub mod WalletCalls
pub mod Picked
pub mod LookUps
pub mod WalletRun
pub mod WalletSteps

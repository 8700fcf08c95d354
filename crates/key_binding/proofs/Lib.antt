pub mod BindingSteps
pub mod HolderSteps
pub mod BindingTests
pub mod Bindings
pub mod Accepted

pub mod Digest
pub mod Disclosure
pub mod DisclosureRefusals
pub mod ReadSteps

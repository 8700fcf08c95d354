pub mod Consent
pub mod ChoiceRefusals
pub mod Asked
pub mod AllowCalls
pub mod ChooseCalls
pub mod Never
pub mod Outermost

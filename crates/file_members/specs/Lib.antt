pub mod FileWords
pub mod FileForms
pub mod FileRefusals

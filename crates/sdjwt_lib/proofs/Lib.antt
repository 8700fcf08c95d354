mod EndToEnd
pub mod Lemmas

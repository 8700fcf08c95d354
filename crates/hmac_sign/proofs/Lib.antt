pub mod AlgNames
pub mod Macs
pub mod Blocks
mod Equal
mod KeySets
pub mod KeySetVerdicts
pub mod KeyTexts
mod Examples

pub mod Stopped
pub mod Finished
pub mod OneReply
pub mod CompletedRuns

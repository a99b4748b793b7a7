pub mod Completeness
pub mod Dialogue
pub mod FairRun
pub mod OneHistory
pub mod Private
pub mod PrivateActing
pub mod Talking
pub mod Workers

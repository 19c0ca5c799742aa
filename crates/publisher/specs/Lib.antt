pub mod Plan
pub mod Publish
pub mod Answers
pub mod Calls
pub mod Cuts

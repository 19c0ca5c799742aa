pub mod Accept
pub mod Answers

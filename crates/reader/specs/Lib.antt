pub mod Ranges
pub mod Lookup
pub mod Answers

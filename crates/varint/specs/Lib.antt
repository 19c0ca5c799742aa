pub mod Varint
pub mod Answers

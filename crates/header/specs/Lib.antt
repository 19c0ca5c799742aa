pub mod Bytes
pub mod Header
pub mod Settled
pub mod Answers

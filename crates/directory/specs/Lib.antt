pub mod Entries
pub mod Columns
pub mod Decode
pub mod Encode
pub mod Search
pub mod Answers
pub mod Stores

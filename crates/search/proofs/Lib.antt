pub mod Covers
pub mod Last
pub mod Hits
pub mod Finding
pub mod Only

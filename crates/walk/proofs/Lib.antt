pub mod ByEntry
pub mod Past
pub mod Rows
pub mod Walks
pub mod Sweeps
pub mod Agree
pub mod Only

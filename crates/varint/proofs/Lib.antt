pub mod Cases
pub mod Shortest
pub mod Round
pub mod Reading
pub mod Turns
pub mod Writing
pub mod Only

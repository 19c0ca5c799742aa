pub mod ReadBack
pub mod Only
pub mod Examples
pub mod Twos
pub mod LittleEndian
pub mod Start
pub mod Passing

pub mod Tiles
pub mod Accepts
pub mod Only

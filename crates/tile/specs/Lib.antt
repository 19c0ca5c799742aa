pub mod Tile
pub mod Answers

pub mod Examples
pub mod Nearest
pub mod Sizes
pub mod Casts
pub mod FromBits

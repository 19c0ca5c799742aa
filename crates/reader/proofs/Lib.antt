pub mod Inside
pub mod Descents
pub mod Lookups
pub mod Only
pub mod Depth

pub mod Curve
pub mod Zooms
pub mod Ids
pub mod Only

pub mod Demand
pub mod Promise
pub mod Library

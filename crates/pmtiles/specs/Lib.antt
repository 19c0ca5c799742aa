pub mod Exports
pub mod Headers
pub mod Publishes

pub mod Demand
pub mod Calls
pub mod Places
pub mod Only
pub mod Admitted
pub mod Runs
pub mod Stores
pub mod Numbers

pub mod Bytes
pub mod Copied
pub mod HeaderSlots
pub mod PublishSlots

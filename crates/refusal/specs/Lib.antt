pub mod Out
pub mod Number
pub mod Said

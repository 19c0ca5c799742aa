pub mod Write
pub mod Build
pub mod Answers
pub mod Stock
pub mod Cells
pub mod Cuts

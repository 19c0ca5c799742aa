pub mod Numbers
pub mod OutLaws

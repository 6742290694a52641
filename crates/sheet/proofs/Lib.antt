pub mod Numbering
pub mod Terms
pub mod Outcomes
pub mod Keeping
pub mod Standing

pub mod Filling
pub mod Questions
pub mod Finds

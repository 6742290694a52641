pub mod Held
pub mod Meaning
pub mod Promise
pub mod Model
pub mod Runs
pub mod Theorems

pub mod Reached
pub mod Terms
pub mod Turns
pub mod Passes
pub mod Lowering
pub mod Summits
pub mod Flags

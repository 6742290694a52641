pub mod Split
pub mod Faults
pub mod Checks
pub mod Reading
pub mod Names
pub mod Spelled
pub mod Numerals
pub mod Copies

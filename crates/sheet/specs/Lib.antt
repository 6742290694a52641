pub mod Faults
pub mod Plain
pub mod Sound
pub mod Model

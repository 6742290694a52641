pub mod Lines
pub mod Report
pub mod Puts
pub mod Known

pub mod Answers
pub mod Rules
pub mod Opened
pub mod Settling
pub mod Asking
pub mod Reporting
pub mod Exports

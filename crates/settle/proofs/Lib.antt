pub mod Promises
pub mod Witness
pub mod Meant
pub mod Finding
pub mod Running

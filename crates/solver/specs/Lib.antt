pub mod Permitted
pub mod Tasks
pub mod Asked
pub mod Solutions

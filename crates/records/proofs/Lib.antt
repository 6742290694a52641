pub mod Calls
pub mod Meanings
pub mod Groups
pub mod After
pub mod Fits
pub mod Slots

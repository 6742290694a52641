pub mod Splits
pub mod Lossless
pub mod Clean
pub mod Numerals
pub mod WrittenNumbers

pub mod Laws
pub mod Masks
pub mod Added
pub mod Sets
pub mod Asked
pub mod SetsLemmas
pub mod Parts
pub mod AddedLemmas

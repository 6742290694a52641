pub mod Fields
pub mod LinesMore
pub mod Needs
pub mod FromFound
pub mod LoadedNeeds

pub mod Cuts
pub mod Fronts
pub mod Numerals
pub mod Steps

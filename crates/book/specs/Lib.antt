pub mod InPlace
pub mod Matches

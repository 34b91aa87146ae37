pub mod Closings
pub mod Opened
pub mod Underway

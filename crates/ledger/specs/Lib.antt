pub mod Places
pub mod Ledgers

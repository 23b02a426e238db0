pub mod Asks
pub mod Places
pub mod Tasks

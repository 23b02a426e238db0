pub mod Limits
pub mod Names
pub mod Settings
pub mod Places

pub mod Settings
pub mod Kinds
pub mod Lengths

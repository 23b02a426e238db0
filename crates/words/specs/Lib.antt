pub mod Bit
pub mod Sets

pub mod Tables
pub mod Readers
pub mod Wanted

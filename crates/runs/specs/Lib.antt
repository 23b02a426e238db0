pub mod Calls
pub mod Deciding
pub mod Model
pub mod Views
pub mod Law
pub mod Theorems

pub mod Rows
pub mod Switched
pub mod Masks
mod Filled
mod Fronts
mod Pulses

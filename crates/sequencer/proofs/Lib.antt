pub mod Resting
pub mod Showing
pub mod WholeRuns

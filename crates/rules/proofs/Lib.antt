pub mod NormalForm
pub mod Naming
pub mod Leading
pub mod Theorems
pub mod Computed

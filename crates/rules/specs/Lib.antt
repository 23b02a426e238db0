pub mod Rules
pub mod NormalForm
pub mod Naming
pub mod Refusals
pub mod Theorems
pub mod Worked

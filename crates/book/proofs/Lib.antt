pub mod Copying
pub mod Empty
pub mod OneMore
pub mod Sameness

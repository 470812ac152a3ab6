pub mod Sixes
mod Sizes
mod Points
pub mod Turns
pub mod Walking

pub mod Shapes
pub mod Rows
pub mod Sizes
pub mod Counters

pub mod Bounds
pub mod Runs
pub mod Tests
pub mod Rules
pub mod Solves
pub mod Ties
pub mod Ends
pub mod Computing

pub mod Limits
pub mod Loops
pub mod Tables
pub mod Acts
pub mod Backs

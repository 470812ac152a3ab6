pub mod Pairs
pub mod Rows
pub mod Latest
pub mod Fits
pub mod Backs

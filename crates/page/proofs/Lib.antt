mod Checking
mod Chunks
pub mod Fitting
pub mod Holding
pub mod Listing
pub mod Pasting
pub mod Reading
pub mod Regained
pub mod Replying
mod Testing
pub mod Words
pub mod Written

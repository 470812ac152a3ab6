pub mod Words
pub mod Records
pub mod Fits
pub mod Readings
pub mod Pages
pub mod Ties
pub mod Replies

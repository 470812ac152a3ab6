pub mod Words
pub mod Listings
pub mod Texts
pub mod Solving

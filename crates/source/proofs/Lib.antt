pub mod Tables
pub mod Joins
pub mod Numbers

pub mod Rows
pub mod Tables
pub mod Columns
pub mod Cuts

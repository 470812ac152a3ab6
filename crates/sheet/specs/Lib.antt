pub mod Sheets
pub mod Events
pub mod Arrangements
pub mod Refused
pub mod Laws
pub mod Paged
pub mod Logs

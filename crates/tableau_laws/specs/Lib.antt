pub mod Lines
pub mod Facts
pub mod Settings
pub mod Start
pub mod Ends
pub mod Laws

pub mod Postings
pub mod Laws

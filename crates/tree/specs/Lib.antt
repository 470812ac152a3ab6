pub mod Kinds
pub mod Trees
pub mod Answers
pub mod Limits
pub mod Finds
pub mod Questions
pub mod Parts
pub mod Walks

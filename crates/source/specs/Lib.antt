pub mod Systems
pub mod Limits
pub mod Enters
pub mod RowSources
pub mod Counted

pub mod Costs
pub mod Listed
pub mod PageStores

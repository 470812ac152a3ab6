pub mod Stores
pub mod NodeStores

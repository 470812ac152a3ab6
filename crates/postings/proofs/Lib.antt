pub mod Asked
pub mod Standing

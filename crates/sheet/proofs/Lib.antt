mod Alike
pub mod Arranged
mod Asking
mod Paging
mod Running
mod Solving
pub mod Standing

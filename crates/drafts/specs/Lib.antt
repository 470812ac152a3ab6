pub mod Nothings

pub mod Lanes
pub mod Looks
pub mod Scripts
pub mod Sets

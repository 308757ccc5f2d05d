pub mod Count
pub mod LongestFront
pub mod Place
pub mod Pieces

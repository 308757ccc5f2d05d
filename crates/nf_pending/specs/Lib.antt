pub mod Meeting
pub mod StandsAfter
pub mod Laws

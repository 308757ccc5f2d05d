pub mod Standing
pub mod After

pub mod Common
pub mod Standing

pub mod Settled
pub mod Room
pub mod Normalizer
pub mod Front
pub mod Step
pub mod Laws

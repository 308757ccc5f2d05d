-- Laws of what is settled and what can be used.
pub mod Settled
pub mod Boundary

pub mod BlockLemmas
pub mod ToldLemmas

mod Told
pub mod AssignedLemmas
mod PieceLemmas
mod PlainLemmas
mod WindowLemmas

pub mod Common
mod AsciiLemmas
mod BegunLen
mod CountingLemmas
mod Fronts
pub mod LeftLemmas
mod LossyLemmas
mod NextLemmas
pub mod SourceLemmas
pub mod ReplacingLemmas
pub mod PushesLemmas
pub mod ReadingLemmas
mod ReadsLemmas
pub mod ReplacedLemmas
mod Sequences
pub mod StandingLemmas
mod TakingLemmas
mod TextLen
mod Texts

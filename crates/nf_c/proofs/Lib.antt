pub mod Common
pub mod FeedsLemmas
pub mod FinishesLemmas
pub mod ConvertsLemmas
pub mod ChecksLemmas
pub mod PassingLemmas

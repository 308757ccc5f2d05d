pub mod Common
pub mod TextLemmas
pub mod WordLemmas
pub mod PieceLemmas
pub mod StandingLemmas
pub mod EndingLemmas
pub mod ComparisonLemmas
pub mod HoldsLemmas
pub mod ReportLemmas
pub mod SweepLemmas
mod Examples
pub mod PlainLemmas

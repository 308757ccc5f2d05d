pub mod Common
pub mod CheckerLemmas
pub mod RunsLemmas
pub mod CountedLemmas
pub mod MeasurerLemmas

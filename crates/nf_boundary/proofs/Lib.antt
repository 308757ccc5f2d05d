pub mod Common
mod WalkLemmas
pub mod SeenLemmas
pub mod PieceLemmas
pub mod LetterLemmas
pub mod RowLemmas
pub mod HangulLemmas
pub mod StarterLemmas
pub mod BecomesLemmas
pub mod FillsLemmas

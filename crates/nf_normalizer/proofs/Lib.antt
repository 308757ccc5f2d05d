pub mod Common
pub mod PushingLemmas
pub mod CharacterLemmas
pub mod AsciiLemmas
pub mod FrontLemmas

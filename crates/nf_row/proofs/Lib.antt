pub mod OrderingLemmas

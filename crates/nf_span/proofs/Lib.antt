pub mod ScanLemmas
pub mod CutLemmas
pub mod WindowLemmas
pub mod LookLemmas
pub mod ToldLemmas
pub mod PlainLemmas

pub mod PlacesLemmas
pub mod BitsLemmas
pub mod LookUpLemmas
pub mod LooksLemmas

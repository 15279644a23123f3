pub mod PlaceLemmas
pub mod PutLemmas
pub mod DefinedLemmas
pub mod ValuationLemmas
pub mod LawLemmas
pub mod RunLemmas
pub mod OrderLemmas

pub mod DeltaLemmas
pub mod OrderLemmas
pub mod ItemLemmas
pub mod LatchLemmas
pub mod GateLemmas
pub mod FileLemmas
pub mod SpellLemmas
pub mod RefusalLemmas

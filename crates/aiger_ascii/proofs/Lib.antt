pub mod DefineLemmas
pub mod ItemLemmas
pub mod FileLemmas
pub mod SpellLemmas
pub mod DecideLemmas
pub mod CycleLemmas
pub mod DesignLemmas
pub mod RefusalLemmas

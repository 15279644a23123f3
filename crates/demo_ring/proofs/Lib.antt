pub mod RangeLemmas
pub mod RowLemmas
pub mod LineLemmas
pub mod SizeLemmas
pub mod GateLemmas
pub mod PartsLemmas
pub mod SpellLemmas

pub mod ChainLemmas
pub mod NumberLemmas
pub mod LineLemmas
pub mod TextLemmas

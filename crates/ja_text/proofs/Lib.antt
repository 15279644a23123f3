pub mod ByteLemmas
pub mod NumberLemmas
pub mod LineLemmas
pub mod RowLemmas
pub mod DecimalLemmas
pub mod ReadingLemmas
pub mod RepeatedLemmas

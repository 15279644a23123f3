pub mod PartsLemmas
pub mod LoopLemmas
pub mod EntryLemmas
pub mod BitLemmas
pub mod LinesLemmas
pub mod TextLemmas

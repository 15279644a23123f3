pub mod ListLemmas
pub mod TailLemmas
pub mod HeaderLemmas
pub mod SectionLemmas
pub mod PartsLemmas
pub mod TailCases

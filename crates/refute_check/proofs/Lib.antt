pub mod ScanLemmas
pub mod Undone
pub mod Sound
pub mod Covered
pub mod FitLemmas
pub mod ListLemmas
pub mod SearchLemmas

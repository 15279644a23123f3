pub mod LowestLemmas

pub mod BelowLemmas

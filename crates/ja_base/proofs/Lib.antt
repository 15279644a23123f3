pub mod ClauseLemmas
pub mod LiteralLemmas
pub mod JoinLemmas
pub mod SetLemmas

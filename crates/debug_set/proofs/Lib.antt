mod PrefixLemmas
mod BreakLemmas
mod SetLemmas
mod JoinedLemmas
mod NamedLemmas
mod StatusLemmas

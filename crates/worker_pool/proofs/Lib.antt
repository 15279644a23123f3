pub mod JudgementLemmas

pub mod Verdicts
pub mod FirstBreaks

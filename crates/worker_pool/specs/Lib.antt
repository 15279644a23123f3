pub mod Judgements
pub mod Pools

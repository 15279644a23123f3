pub mod CodedClauses
pub mod Latches
pub mod Start
pub mod Resets
pub mod Meaning
pub mod Laws
pub mod Coding

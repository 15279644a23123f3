pub mod Closed
pub mod Queries
pub mod Proofs
pub mod Refusals
pub mod Taken
pub mod Known
pub mod Loaded

pub mod Cubes
pub mod Chains
pub mod Aims
pub mod Lifting
pub mod Dropping
pub mod Shrinking

pub mod Plans
pub mod Depths

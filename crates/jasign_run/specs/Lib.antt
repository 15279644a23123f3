pub mod Designs
pub mod Lines
pub mod Summary
pub mod Demo
pub mod Files
pub mod Meaning

pub mod Levels
pub mod Marks
pub mod Soundness
pub mod Sums
pub mod Apart
pub mod Laws

pub mod Header
pub mod Lines
pub mod Tail
pub mod Reading
pub mod Files

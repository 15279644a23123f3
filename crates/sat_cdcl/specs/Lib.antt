pub mod Files
pub mod Walks
pub mod Assumptions
pub mod Turns
pub mod Questions

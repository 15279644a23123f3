pub mod Openings
pub mod Sections
pub mod Joint
pub mod SignOff
pub mod Assembly
pub mod Underway
pub mod Places
pub mod Replies

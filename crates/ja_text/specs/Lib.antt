pub mod Forms
pub mod Numbers
pub mod Lines
pub mod Rows
pub mod Places
pub mod Padded
pub mod Reading
pub mod Repeated

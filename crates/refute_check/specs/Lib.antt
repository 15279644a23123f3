pub mod Lines
pub mod Spans
pub mod Refuted
pub mod Checked
pub mod Laws

pub mod MarkKinds
pub mod Steps
pub mod History
pub mod Marks
pub mod Boards
pub mod Judged
pub mod Examples

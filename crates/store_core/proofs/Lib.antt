pub mod Histories
pub mod Reasons
pub mod NextBoards
pub mod Events
pub mod ExampleLemmas

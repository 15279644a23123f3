pub mod Heaps
pub mod Orders

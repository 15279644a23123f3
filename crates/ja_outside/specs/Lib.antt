pub mod Faults
pub mod Files
pub mod Flags
pub mod InMemory
pub mod Laws
pub mod Shelf
pub mod Sink
pub mod Whole

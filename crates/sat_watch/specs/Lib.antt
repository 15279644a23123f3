pub mod Stores
pub mod Slots
pub mod Steps
pub mod Watching
pub mod Visits
pub mod Passes
pub mod Fronts

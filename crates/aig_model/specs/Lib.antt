pub mod Netlist
pub mod Task
pub mod Refusals
pub mod Least
pub mod Order
pub mod Definitions
pub mod Ranges

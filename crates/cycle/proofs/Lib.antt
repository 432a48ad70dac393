-- The laws of the lowering.
pub mod Way
pub mod Sizes
pub mod Visited
pub mod Nodes
pub mod Dropped
pub mod Nested
pub mod Turns
pub mod Members

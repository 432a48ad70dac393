-- Where the nodes of a tree file stand, and what a node of each kind holds.
pub mod Offsets
pub mod Nodes

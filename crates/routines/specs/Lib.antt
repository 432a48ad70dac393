-- What the routines' pieces and nodes without children are given, and what they promise.
pub mod Pieces
pub mod Node

-- What the functions of the lowering are given, and what they promise.
pub mod Cycle

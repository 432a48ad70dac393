-- The law of the offset, and what the proofs of the functions cite.
pub mod Offsets
pub mod Determined

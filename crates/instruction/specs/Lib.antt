-- What the crate's promises speak of, beside the definition's own opcodes and instructions.
pub mod Offset

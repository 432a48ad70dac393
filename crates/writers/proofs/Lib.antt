-- Laws that the functions' proofs cite, and that a caller may.
pub mod Splicing
pub mod Bytes
pub mod Determined

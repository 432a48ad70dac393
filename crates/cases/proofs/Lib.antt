-- Programs of document 01 that take seconds to compute.
pub mod Large
pub mod Limits

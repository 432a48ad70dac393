-- What the contracts cite beside the definition of `meaning`.
pub mod Values
pub mod Spliced

-- What the contracts cite beside the definition of `meaning`.
pub mod Literals

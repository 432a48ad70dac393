-- What the contracts of inner functions cite beside the definition of `meaning`.
pub mod Course

-- What the contracts cite beside the definition of `meaning`: by inner functions alone.
pub mod Turn
pub mod Code
pub mod Route

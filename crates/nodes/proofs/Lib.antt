-- Theorems about where nodes stand and what their words are.
pub mod Bytes
pub mod Headers
pub mod Allowed
pub mod Held
pub mod Determined

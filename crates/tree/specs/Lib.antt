-- What the contracts cite beside the definition of `meaning`: `Used` by public functions, the others by inner ones alone.
pub mod Used
pub mod Rows
pub mod Starts
pub mod Scratch
pub mod Retired

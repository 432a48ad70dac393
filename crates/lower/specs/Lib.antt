-- What the public call starts from.
pub mod Open
pub mod Told

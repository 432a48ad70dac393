-- Laws of the bytes of an image.
pub mod Bytes
pub mod ConstantBytes
pub mod Finishing

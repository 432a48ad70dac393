-- What is promised of the bytes of an image.
pub mod Output
pub mod Finish

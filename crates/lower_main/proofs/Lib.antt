-- What the program needs of an answer.
pub mod Fits

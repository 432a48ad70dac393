-- What the program needs of an image in order; of how many digits a number has.
pub mod Digits
pub mod Taken

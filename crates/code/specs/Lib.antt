-- What is promised of pending code and of the output.
pub mod Words
pub mod Cuts

-- Laws that the functions' proofs cite, and that a caller may: what is read stands for its bits, and the test for Addi by bits is that by value.
pub mod Numbers
pub mod Bytes
pub mod Determined

-- Laws that the functions' proofs cite, and that a caller may (Answered: what an accepted image has).
pub mod Glances
pub mod Tested
pub mod Quick
pub mod Scanned
pub mod Widths
pub mod Runs
pub mod Blocks
pub mod Locates
pub mod Marking
pub mod Lenses
pub mod Tables
pub mod Naming
pub mod Belows
pub mod Firsts
pub mod Ruling
pub mod Answered
pub mod Determined

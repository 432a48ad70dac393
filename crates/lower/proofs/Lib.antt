-- Laws of the public call.
pub mod Clearing
pub mod Start
pub mod Whole
pub mod Determined

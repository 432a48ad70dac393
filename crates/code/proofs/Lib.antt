-- Laws of pending code and of the output.
pub mod Writing
pub mod Coded
pub mod Scans
pub mod Turning
pub mod Dropping
pub mod Adding
pub mod Ending
pub mod Determined

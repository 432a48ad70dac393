-- Laws that the functions' proofs cite.
pub mod Courses
pub mod Seen
pub mod Stored
pub mod Coursing
pub mod Putting
pub mod Judged
pub mod Finished
pub mod Determined

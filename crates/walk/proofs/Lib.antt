-- Laws that the functions' proofs cite.
pub mod Firsts
pub mod Strikes
pub mod Onward
pub mod Moves
pub mod Walking
pub mod Arrived
pub mod Determined

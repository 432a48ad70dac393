-- What a word spells, digit by digit; what the contract of `decimal` leaves open: nothing.
pub mod Spelling
pub mod Determined

-- Words of a command line.
pub mod Words

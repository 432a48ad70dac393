-- What a walk leaves; what the contracts leave open: nothing.
pub mod Walks
pub mod Determined

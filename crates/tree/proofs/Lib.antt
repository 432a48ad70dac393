-- Laws that the functions' proofs cite.
pub mod Table
pub mod Words
pub mod Noted
pub mod Payloads
pub mod Forms
pub mod Shapes
pub mod First
pub mod Depths
pub mod Parents
pub mod Answers
pub mod Over
pub mod Determined

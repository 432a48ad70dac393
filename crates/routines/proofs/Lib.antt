-- Laws of the routines' pieces, and of nodes without children.
pub mod PieceLine
pub mod Results
pub mod Named
pub mod Context
pub mod Tokens
pub mod PairLoops
pub mod Ended
pub mod NodeLine
pub mod Held

-- The laws of forward writing.
pub mod Steps
pub mod Calls
pub mod Jumps
pub mod Registers
pub mod Around
pub mod Lines
pub mod ExpressionsForward
pub mod FunctionsForward
pub mod StatementsForward
pub mod Chains
pub mod Leaves
pub mod Opened

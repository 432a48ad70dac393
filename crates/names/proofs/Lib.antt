-- 02, E14: names do not steer the lowering.
pub mod Changed
pub mod Steps
pub mod Visitors
pub mod Lowering
pub mod Files
pub mod Checks
pub mod Words
pub mod Read
pub mod Images
pub mod Whole
pub mod Rules
pub mod Premise

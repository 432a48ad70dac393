-- 02, E14: files that differ in names alone.
pub mod Rename

-- What callers get: a reading whose tag the image tells (Either), a mended image (Mended), a recorded run (Runs), number 0 in a reply (Replies); and what E1
-- says of single instructions: the Return that is let pass (Passes), the opcodes that are written (Opcodes).
pub mod Either
pub mod Mended
pub mod Runs
pub mod Replies
pub mod Passes
pub mod Opcodes

-- The operations by which the lowering's contracts say what was appended to the pending code and patched in it.
pub mod Forward

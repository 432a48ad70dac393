-- What a walk over fields finds.
pub mod Walk

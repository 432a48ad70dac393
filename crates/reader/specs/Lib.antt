-- What the contracts cite beside the definition of `meaning`: `Laid` by public functions, the others by inner ones alone.
pub mod Spots
pub mod Glance
pub mod Tests
pub mod Right
pub mod Marks
pub mod Laid
pub mod Lens
pub mod Around

-- What the work area stands for, and what the functions over it promise.
pub mod Half
pub mod Table
pub mod Layout
pub mod Cell
pub mod Store
pub mod Promise
pub mod Search
pub mod Opening

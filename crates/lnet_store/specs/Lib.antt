pub mod StoreValues
pub mod Held
pub mod Fields
pub mod Cursors
pub mod Search
pub mod Linked

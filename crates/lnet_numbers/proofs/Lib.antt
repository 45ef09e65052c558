pub mod Padding
pub mod Extending
pub mod FourLevels
pub mod WordBits
pub mod Towers
pub mod Rooms

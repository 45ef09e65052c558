pub mod Bits
pub mod Words
pub mod Tower
pub mod Least
pub mod Room

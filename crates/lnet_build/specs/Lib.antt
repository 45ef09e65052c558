pub mod Built
pub mod Signals
pub mod Sound

pub mod NameBytes
pub mod Uses
pub mod Fitting
pub mod Sound
pub mod Sizes
pub mod NumberLaws
pub mod TextLemmas
pub mod Answering

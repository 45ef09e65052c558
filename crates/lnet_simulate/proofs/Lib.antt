pub mod FaninLemmas
pub mod PathLemmas
pub mod OrderLemmas
pub mod LaneLemmas
pub mod BlockLemmas
pub mod ValueLemmas
pub mod CompareLemmas
pub mod OutputLemmas

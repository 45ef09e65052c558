pub mod PlaceLemmas
pub mod PathLemmas
pub mod CallLemmas
pub mod SoundLemmas

pub mod OfKind
pub mod FirstNetwork
pub mod SeenAs
pub mod OtherOutputs
pub mod Uses

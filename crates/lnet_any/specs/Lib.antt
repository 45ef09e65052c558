pub mod AnyNets

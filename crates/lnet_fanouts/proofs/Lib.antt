mod SlotLemmas
mod Fans
mod InStep
mod NextPlaces
mod Events
mod Filling
mod Roomier

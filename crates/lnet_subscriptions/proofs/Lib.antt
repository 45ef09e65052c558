mod Standing
mod Shelved
mod Placed
mod Asked

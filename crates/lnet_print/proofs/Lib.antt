mod Numbered
mod Listed
mod PlaceLemmas

mod Listing
mod Chaining
mod Changing
mod Growing
mod Shown

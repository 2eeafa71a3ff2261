mod Painting
mod Bands
mod Drawn
mod Counts
mod Steps
mod Plays
mod Lists
mod Reached

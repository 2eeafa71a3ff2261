mod Claiming
mod Counting
mod Places
mod Waiting

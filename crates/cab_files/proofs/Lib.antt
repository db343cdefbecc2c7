pub mod Endings
mod NewRoots
mod Sessions
mod Showings

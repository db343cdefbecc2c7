-- What each function ensures, where that is longer than a line.
pub mod Ascending
pub mod Heads
pub mod Lines
pub mod Paths
pub mod Stack
pub mod Text
pub mod Wholes

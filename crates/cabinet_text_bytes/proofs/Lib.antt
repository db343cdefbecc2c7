pub mod Counted
pub mod Numbers
pub mod Plain
pub mod Positions
pub mod Runs

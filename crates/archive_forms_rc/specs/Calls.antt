-- What calls require and ensure, where that is longer than a line.
pub mod Checking
pub mod Leading
pub mod Resolving

pub mod Calls
pub mod Compared

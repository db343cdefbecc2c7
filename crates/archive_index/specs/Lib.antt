pub mod Answering
pub mod Calls
pub mod Lookups
pub mod Maps
pub mod Owned
pub mod Sets
pub mod Written

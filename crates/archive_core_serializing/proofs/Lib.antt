mod Made
pub mod Once
mod Placed

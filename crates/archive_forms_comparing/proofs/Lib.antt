pub mod Elements
pub mod Hashed
pub mod Ordered
pub mod Seen

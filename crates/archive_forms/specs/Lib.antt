pub mod Alike
pub mod Calls
pub mod Deserializing
pub mod Faithful
pub mod Keeping
pub mod Reading
pub mod Steps
pub mod Weak

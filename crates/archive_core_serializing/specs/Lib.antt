pub mod Filling
pub mod Kept
pub mod Shared

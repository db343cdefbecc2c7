pub mod Bounded
mod Changed
mod Claiming
pub mod Empty
pub mod Rooted
pub mod Unlimited

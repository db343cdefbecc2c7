pub mod AlikeParts
mod Counted
pub mod Faithful
pub mod Fields
mod Kept
mod Outcomes
pub mod Plain
pub mod Read
mod ReadWeak

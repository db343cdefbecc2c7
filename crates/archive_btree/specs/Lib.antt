pub mod Answering
pub mod Laws
pub mod Owned
pub mod Ranges
pub mod ReadBack

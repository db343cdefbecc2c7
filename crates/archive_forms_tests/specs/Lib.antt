pub mod Labelled
pub mod Lists
pub mod Recursive

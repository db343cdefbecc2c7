pub mod Answers
pub mod Edited
pub mod ReadBack
pub mod Stock
pub mod Written

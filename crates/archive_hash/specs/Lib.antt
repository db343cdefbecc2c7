pub mod Answering
pub mod Calls
pub mod Edited
pub mod Edits
pub mod Given
pub mod Owned
pub mod ReadBack

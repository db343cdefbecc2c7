pub mod Answering
pub mod Edited
pub mod Edits
pub mod EditedOnce
pub mod Given
mod Inserted
pub mod Items
mod ReadAlike
mod Reordered
pub mod Resolved
mod StdMaps
pub mod Whole
pub mod WrittenAt

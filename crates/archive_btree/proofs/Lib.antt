mod Answering
mod Ascending
mod Between
mod Finding
mod InOrder
pub mod Keyed
pub mod Listed
mod ReadBack
mod Readable
pub mod Seen
mod Unshared
mod Widths
mod WrittenAt
mod Zipped

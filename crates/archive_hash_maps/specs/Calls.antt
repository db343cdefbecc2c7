-- What the functions require and ensure, where that is longer than a line.
pub mod Tables
pub mod Keys
pub mod Entries
pub mod Seals
pub mod Walks
pub mod Cursors
pub mod Lists
pub mod Equal
pub mod Checks

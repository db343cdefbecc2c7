-- What functions ensure and require of their callers, where that is longer than a line.
pub mod Checking
pub mod Comparing
pub mod Cursors
pub mod CursorsOpened
pub mod Layout
pub mod Lending
pub mod Lookups
pub mod Ranges
pub mod Resolving
pub mod Searching
pub mod Stacks
pub mod StdMaps
pub mod Visits
pub mod Walks

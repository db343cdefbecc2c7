-- What each function requires and ensures, where that is longer than a line. `this` is the reference to a map or a set, and
-- a type is given by the members that its bound has. The keys of a map have the shape `k`, and its values the shape `v`.
pub mod Checking
pub mod Entries
pub mod Keys
pub mod Laws
pub mod Lending
pub mod Owned
pub mod Reading
pub mod Search
pub mod Visits
pub mod Writing

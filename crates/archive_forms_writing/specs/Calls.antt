-- What calls require and ensure, where that is longer than a line.
pub mod Data
pub mod Items
pub mod Iterating
pub mod Pairs
pub mod Placing
pub mod Resolving

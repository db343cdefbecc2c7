-- What each function ensures, where that is longer than a line. `this` refers to the archived value that is read.
pub mod Checking
pub mod Lending
pub mod Reading
pub mod Texts
pub mod Tuples
pub mod Writing

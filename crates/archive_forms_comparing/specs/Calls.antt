-- What each function ensures, where that is longer than a line. `this` and `other` refer to archived values.
pub mod Comparing
pub mod Parts

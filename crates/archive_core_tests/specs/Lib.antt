pub mod Cyclic
pub mod Forms
pub mod Towers

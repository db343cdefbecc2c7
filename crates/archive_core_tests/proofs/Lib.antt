pub mod Named
mod Towers

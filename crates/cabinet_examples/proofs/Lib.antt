pub mod Boxes
pub mod CanonicalLemmas
pub mod Documents
pub mod Doubtful
mod ImageLemmas
mod MapImages
pub mod Refused
pub mod Spoilt
pub mod Stored

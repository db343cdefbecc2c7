pub mod CallsGiven
pub mod CallsLines
mod KeyLemmas
mod Loads
pub mod Nested
pub mod RefusalLemmas
mod Roots
mod Saves
pub mod SessionLaws
pub mod Sessions
mod WithoutWholes
pub mod WorkedAnswers

pub mod Calls
pub mod Failures
pub mod Input
pub mod LineReading
pub mod LineSteps
pub mod Session
pub mod Working

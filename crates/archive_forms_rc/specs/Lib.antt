pub mod Calls
pub mod Compared
pub mod Counted
pub mod Pointers
pub mod Visits
pub mod WeakPointers
pub mod WeakResolvers

pub mod Apart
pub mod From
pub mod Joined
pub mod Laid
pub mod Roots
pub mod Unshared

pub mod Access
pub mod AccessLaws
pub mod Depth
pub mod NestingLaws
pub mod Subtrees
pub mod Visits

pub mod BtreeTexts
pub mod FormsSums
pub mod HashTexts
pub mod Sums
pub mod Writes

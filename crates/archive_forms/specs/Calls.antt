-- What calls that read back require and ensure. `this` is the reference to an archived value, and a type that is read
-- back is given by the members that its bound `ReadBack` has.
pub mod Forms
pub mod Pointers
pub mod Pools
pub mod Steps

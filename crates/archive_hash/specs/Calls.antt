-- What each function requires and ensures, where that is longer than a line. `old` and `new` are the serializer as a call
-- begins and ends, and a type is given by the members that its bound has.
pub mod Entries
pub mod Laws
pub mod Members
pub mod Owned
pub mod Reading

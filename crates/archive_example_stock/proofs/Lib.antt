mod Edits
mod Elements
mod Found
mod Held
mod Read
mod Reading
mod Suits
mod Tests

mod Found
mod Suits

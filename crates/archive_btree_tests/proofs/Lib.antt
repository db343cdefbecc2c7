mod Suits
mod Told

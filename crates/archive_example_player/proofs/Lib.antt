mod Fields
mod Read
mod Resolved
mod Serialized

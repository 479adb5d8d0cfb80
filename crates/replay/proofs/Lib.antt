mod Refusing
mod Playing
mod Replaying

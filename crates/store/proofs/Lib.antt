pub mod Located
pub mod Listed
pub mod Sounds

pub mod Loops
pub mod Rounds
pub mod Decoded

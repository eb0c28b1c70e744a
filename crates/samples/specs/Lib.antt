pub mod Rolls
pub mod Pairs

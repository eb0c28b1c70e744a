pub mod Faults
pub mod Pairs
pub mod Rounds
pub mod TwoWays

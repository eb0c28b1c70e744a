pub mod Pairs
pub mod Tables
pub mod Masks
pub mod Blocks
pub mod Bounded
pub mod Cuts
pub mod Boards
pub mod Straying

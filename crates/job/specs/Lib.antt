pub mod Failures
pub mod Records
pub mod Faults
pub mod Films
pub mod Lines

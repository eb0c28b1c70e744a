pub mod Patterns
pub mod PatternFacts

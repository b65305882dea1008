pub mod Steps
pub mod Numerals
pub mod Quotes
pub mod Nests

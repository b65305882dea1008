pub mod Writing
pub mod Digits
pub mod Strings
pub mod Floats
pub mod Law

pub mod Loops
pub mod Decimals
pub mod Escapes
pub mod Levels
pub mod Keys
pub mod Again
pub mod Whole

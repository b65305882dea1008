pub mod Readying
pub mod Trees
pub mod Pairing
pub mod Ends
pub mod Steps

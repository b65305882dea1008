pub mod Scripts
pub mod Allowed
pub mod Jobs
pub mod Turns
pub mod Moves
pub mod Laws

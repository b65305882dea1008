pub mod States
pub mod Claims
pub mod Kept
pub mod Waits
pub mod Changes

pub mod Planning
pub mod Held
pub mod Bridge

pub mod Stores
pub mod Building

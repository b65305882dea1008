pub mod Owed
pub mod Finishes

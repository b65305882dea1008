pub mod Exporting
pub mod Walks

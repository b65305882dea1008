pub mod Caches
pub mod Edits
pub mod Laws
pub mod Parts

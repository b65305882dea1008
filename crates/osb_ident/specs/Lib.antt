pub mod Hashed
pub mod Idents
pub mod Marks

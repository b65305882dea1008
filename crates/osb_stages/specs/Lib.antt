pub mod Names
pub mod Readers
pub mod Rules
pub mod Laws

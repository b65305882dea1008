pub mod Laws
pub mod Victims

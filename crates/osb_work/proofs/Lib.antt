pub mod Places
pub mod Turning
pub mod Interleaving
pub mod Endings

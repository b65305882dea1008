pub mod Counts
pub mod Identifiers
pub mod Lasts
pub mod Lines
pub mod MarkLists
pub mod Pieces
pub mod Places

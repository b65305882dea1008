pub mod Ancestors
pub mod Beneath
pub mod Placing
pub mod Entries
pub mod Standing
pub mod Found

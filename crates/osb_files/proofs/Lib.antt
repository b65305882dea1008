pub mod Giving
pub mod Octal
pub mod Accounts
pub mod Copies
pub mod SourceTexts
pub mod Walks

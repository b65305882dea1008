pub mod PyText
pub mod Written

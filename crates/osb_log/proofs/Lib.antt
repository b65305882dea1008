pub mod Numbers
pub mod Events
pub mod Logs
pub mod Lines

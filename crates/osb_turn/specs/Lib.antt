pub mod Histories
pub mod Rule
pub mod Passes
pub mod Seats
pub mod Rows

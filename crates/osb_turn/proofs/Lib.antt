pub mod Lists
pub mod Moves
pub mod Steps
pub mod Seats
pub mod Parts
pub mod Calls
pub mod Rows
pub mod Closing

pub mod Verdicts
pub mod Rounds
pub mod Replies
pub mod Notes
pub mod Counts

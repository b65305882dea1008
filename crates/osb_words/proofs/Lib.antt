pub mod Builds
pub mod Flags
pub mod Numbers
pub mod Parts

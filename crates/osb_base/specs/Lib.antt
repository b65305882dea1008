pub mod Digests
pub mod Faults
pub mod Calls
pub mod Shelves
pub mod Fetchers
pub mod Exports
pub mod Sinks
pub mod Keepers

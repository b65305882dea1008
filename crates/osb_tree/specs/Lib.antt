pub mod Paths
pub mod Nodes
pub mod Trees
pub mod Laws
pub mod Accounts
pub mod Chunks
pub mod Readings

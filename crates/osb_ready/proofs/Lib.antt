pub mod NamedTrees
pub mod Pairing
pub mod OfBuild
pub mod Came
pub mod Readied
pub mod Cuts

pub mod StageWorks
pub mod ChainStages
pub mod Agreeing
pub mod Turns

pub mod StoreEntries
pub mod TrueStores
pub mod MachineRuns

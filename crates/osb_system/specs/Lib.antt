pub mod Settings
pub mod Zones
pub mod Hostname
pub mod Locale
pub mod Timezone
pub mod Keymap
pub mod MachineId

pub mod Noop
pub mod Error
pub mod Mkdir
pub mod Symlink
pub mod Attributes
pub mod Chmod
pub mod Chown
pub mod Copy

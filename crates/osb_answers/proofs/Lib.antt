pub mod ManyExports
pub mod Texts

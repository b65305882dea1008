pub mod DigestTexts
pub mod DigestOrder
pub mod Cuts
pub mod NamedItems

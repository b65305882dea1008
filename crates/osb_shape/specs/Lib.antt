pub mod Firsts
pub mod Forms
pub mod Values
pub mod Places
pub mod References
pub mod Shapes
pub mod Numbers
pub mod Tables

pub mod Patches
pub mod Places
pub mod Whole
pub mod Answers
pub mod Entries
pub mod Named
pub mod NamedEmission

pub mod Blocks
pub mod Ran

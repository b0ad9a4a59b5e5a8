pub mod Context
pub mod Loops
pub mod Parts

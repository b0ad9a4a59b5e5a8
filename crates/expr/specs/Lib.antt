pub mod Lines
pub mod Went

pub mod Good
pub mod Lines
pub mod Rows
pub mod Table
pub mod File
pub mod Lookup
pub mod Chain
pub mod Pairs

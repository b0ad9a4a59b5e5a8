pub mod View
pub mod Scan

pub mod Longest
pub mod View

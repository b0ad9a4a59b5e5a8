pub mod Book
pub mod Pool
pub mod View
pub mod Steps
pub mod Load
pub mod Parts

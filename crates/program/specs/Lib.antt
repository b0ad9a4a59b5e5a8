pub mod Walk
pub mod Check
pub mod Ends

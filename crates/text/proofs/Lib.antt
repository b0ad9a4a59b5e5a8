pub mod Puts
pub mod Decimals
pub mod Lines
pub mod Room
pub mod Told

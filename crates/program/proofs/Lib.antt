pub mod Laws
pub mod Noted
pub mod Check

pub mod Cases
pub mod Laws
pub mod Looping
pub mod Shapes
pub mod Simple
pub mod Walks

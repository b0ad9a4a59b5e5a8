pub mod Store
pub mod Fill
pub mod Room

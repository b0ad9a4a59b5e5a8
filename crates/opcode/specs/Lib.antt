pub mod View
pub mod Table
pub mod Reading

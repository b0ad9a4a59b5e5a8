pub mod View
pub mod Call
pub mod Entry
pub mod Props

pub mod Graph
pub mod Place
pub mod View

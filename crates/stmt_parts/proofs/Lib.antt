pub mod Arms
pub mod Jumps
pub mod Marks
pub mod Opens
pub mod Tests
pub mod Walks

pub mod Feeds
pub mod Handing

pub mod Going
pub mod Same

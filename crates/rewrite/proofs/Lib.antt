pub mod Decoding
pub mod Sizes
pub mod Fits
pub mod Copy
pub mod Marked
pub mod Pass
pub mod Plans
pub mod Looking

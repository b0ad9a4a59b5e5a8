pub mod Tests
pub mod Lists
pub mod Numbers
pub mod Parts
pub mod Fields
pub mod Results
pub mod Named
pub mod Refusals

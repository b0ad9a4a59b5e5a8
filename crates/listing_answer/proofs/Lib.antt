pub mod Conclusion
pub mod Handing
pub mod Short
pub mod Ending
pub mod Printing

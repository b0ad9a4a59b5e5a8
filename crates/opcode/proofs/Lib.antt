pub mod Roles
pub mod Sheets
pub mod Branches
pub mod Faults
pub mod Tables
pub mod Readings

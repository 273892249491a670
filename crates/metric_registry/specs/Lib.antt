pub mod Naming
pub mod Names

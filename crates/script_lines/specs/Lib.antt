pub mod Language
pub mod Line
pub mod Reading
pub mod Cuts
pub mod Lines

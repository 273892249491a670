pub mod Zipped
pub mod Children
pub mod Places
pub mod Named
pub mod Feeding
pub mod Whole

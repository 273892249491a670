pub mod Increasing
pub mod Historic

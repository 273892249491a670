pub mod Distinct
pub mod Joined

pub mod Rows
pub mod Places
pub mod Steps
pub mod Legal
mod Taking
pub mod Placing
mod Raising
mod Bounded
mod Summing
pub mod Alike

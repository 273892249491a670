pub mod Places
pub mod Cumulation
pub mod Made
pub mod Rising

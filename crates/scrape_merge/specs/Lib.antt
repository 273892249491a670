pub mod Frames
pub mod Merged
pub mod Held

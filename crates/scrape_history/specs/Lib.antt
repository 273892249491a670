pub mod Increases
pub mod History

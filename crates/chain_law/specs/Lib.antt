pub mod Settled
pub mod Lent
pub mod History

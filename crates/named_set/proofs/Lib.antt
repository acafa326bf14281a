pub mod Rows
pub mod Finding
pub mod Standing
pub mod Keeping
pub mod Agreeing
pub mod Opening
pub mod Indexing

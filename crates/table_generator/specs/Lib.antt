pub mod Assembled
pub mod Generated
pub mod Grouped
pub mod Places
pub mod TableText

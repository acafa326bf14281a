pub mod Apart
pub mod Bag
pub mod Entries
pub mod Kept
pub mod Outcomes

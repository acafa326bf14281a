pub mod EntryNumbers
pub mod PassSteps
pub mod Places
pub mod Runs
pub mod Sound
pub mod Steps
pub mod Theorem
pub mod World

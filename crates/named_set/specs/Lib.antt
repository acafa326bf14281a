pub mod Names
pub mod Logged
pub mod Places
pub mod Slots
pub mod Words
pub mod Answers

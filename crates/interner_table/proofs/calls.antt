pub mod Found
pub mod HeldWords
pub mod IfHeld
pub mod Keep
pub mod Outcomes
pub mod Replies
pub mod Runs
pub mod WordsApart

pub mod Replay
pub mod Script

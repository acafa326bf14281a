pub mod Commands
pub mod CountLines
pub mod Faults
pub mod Program
pub mod TableCommands
pub mod TimesSeen
pub mod Told
pub mod WordLines

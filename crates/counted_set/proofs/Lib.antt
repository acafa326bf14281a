pub mod PassKeeps
pub mod Passes
pub mod Quiet
pub mod Shares
pub mod Visits

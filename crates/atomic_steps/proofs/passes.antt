pub mod Goes
pub mod Interns
pub mod Parties
pub mod Plans
pub mod Sweeps
pub mod Zeros
